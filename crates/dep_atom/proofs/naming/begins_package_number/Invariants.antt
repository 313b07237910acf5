use Rattle.std.proofs.Common.{ℕ, ◌<◌}
use Rattle.dep_atom.specs.Naming.{IsNumberAt}
use Rattle.dep_atom.proofs.naming.begins_package_number.Given as goal

abbrev pub invariant-loop-at : goal.invariant-loop-at
invariant-loop-at l = (k : ℕ) → k < l.at → IsNumberAt l.text k → ⊥
