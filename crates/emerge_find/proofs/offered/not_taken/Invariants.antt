-- What was pushed, and those that are left, come to all that may not come.
use Rattle.std.proofs.Common.{◌≡◌, ◌++◌, map}
use Rattle.std.specs.Vec.Iter.{into_iter_items}
use Rattle.emerge_find.specs.Choices.{not_taken}
use Rattle.emerge_find.proofs.offered.not_taken.Given as goal

abbrev pub invariant-loop-one : goal.invariant-loop-one
invariant-loop-one l = l.told.items ++ map not_taken (into_iter_items l.one-iterator) ≡ map not_taken l.fn.hidden.items
