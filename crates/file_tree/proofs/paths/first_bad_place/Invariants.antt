use Rattle.std.proofs.Common.{◌≡◌, ◌<◌, ℕ, false}
use Rattle.file_tree.specs.Paths.{bad_at}
use Rattle.file_tree.proofs.paths.first_bad_place.Given as goal

abbrev pub invariant-loop-at : goal.invariant-loop-at
invariant-loop-at l = (k : ℕ) → k < l.at → bad_at l.bytes k ≡ false
