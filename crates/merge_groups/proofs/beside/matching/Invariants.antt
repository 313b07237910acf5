use Rattle.std.proofs.Common.{◌≡◌, ◌++◌, drop, filter}
use Rattle.dep_atom.specs.Match.{value_matches}
use Rattle.dep_atom.specs.Values.{atom_value}
use Rattle.plan_lives.specs.Lives.{lives_of}
use Rattle.merge_groups.proofs.beside.matching.Given as goal

abbrev pub invariant-loop-x : goal.invariant-loop-x
invariant-loop-x l = lives_of l.fits.items ++ filter (λ x. value_matches (atom_value l.atom) x.package_is.facts l.asker) (lives_of (drop l.x-index l.x-items)) ≡ filter (λ x. value_matches (atom_value l.atom) x.package_is.facts l.asker) (lives_of l.x-items)
