use Rattle.std.proofs.Common.{ℕ, ◌<◌}
use Rattle.dep_atom.specs.Ids.{PartsAt}
use Rattle.dep_atom.proofs.package.version_hyphen.Given as goal

abbrev pub invariant-loop-at : goal.invariant-loop-at
invariant-loop-at l = (k : ℕ) → k < l.at → PartsAt l.bytes k → ⊥
