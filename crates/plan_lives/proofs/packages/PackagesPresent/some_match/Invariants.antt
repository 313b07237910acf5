use Rattle.std.proofs.Common.{◌≡◌, false, take}
use Rattle.std.specs.List.{list_any}
use Rattle.dep_atom.specs.Match.{value_matches}
use Rattle.dep_atom.specs.Values.{atom_value}
use Rattle.plan_lives.proofs.packages.PackagesPresent.some_match.Given as goal

abbrev pub invariant-loop-pkg : goal.invariant-loop-pkg
invariant-loop-pkg l = list_any (λ p. value_matches (atom_value l.atom) p.now.facts l.asker) (take l.pkg-index l.pkg-items) ≡ false
