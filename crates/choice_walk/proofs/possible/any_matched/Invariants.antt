use Rattle.std.proofs.Common.{◌≡◌, drop}
use Rattle.std.specs.List.{list_any}
use Rattle.dep_atom.specs.Match.{value_matches}
use Rattle.dep_atom.specs.Values.{atom_value}
use Rattle.choice_walk.proofs.possible.any_matched.Given as goal

abbrev pub invariant-loop-variant : goal.invariant-loop-variant
invariant-loop-variant l = list_any (λ p. value_matches (atom_value l.atom) p.facts l.asker) (drop l.variant-index l.variants) ≡ list_any (λ p. value_matches (atom_value l.atom) p.facts l.asker) l.variants
