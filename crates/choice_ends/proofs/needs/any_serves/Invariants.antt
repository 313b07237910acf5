use Rattle.std.proofs.Common.{◌≡◌, drop}
use Rattle.std.specs.List.{list_any}
use Rattle.dep_atom.specs.Match.{value_matches}
use Rattle.dep_atom.specs.Values.{atom_value}
use Rattle.choice_ends.proofs.needs.any_serves.Given as goal

abbrev pub invariant-loop-one : goal.invariant-loop-one
invariant-loop-one l =
    list_any (λ p. value_matches (atom_value l.atom) p.facts l.asker) (drop l.one-index l.all)
    ≡ list_any (λ p. value_matches (atom_value l.atom) p.facts l.asker) l.all
