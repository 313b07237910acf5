use Rattle.std.proofs.Common.{◌≡◌, drop, map}
use Rattle.std.specs.List.{list_any}
use Rattle.dep_atom.specs.Match.{value_matches}
use Rattle.dep_atom.specs.Values.{atom_value}
use Rattle.plan_lives.proofs.keeping.some_matches.Given as goal

abbrev pub invariant-loop-atom : goal.invariant-loop-atom
invariant-loop-atom l = list_any (λ a. value_matches a l.other.facts l.asker) (map (λ atom. atom_value atom.now) (drop l.atom-index l.blocks)) ≡ list_any (λ a. value_matches a l.other.facts l.asker) (map (λ atom. atom_value atom.now) l.blocks)
