use Rattle.std.proofs.Common.{◌≡◌, ◌++◌, drop}
use Rattle.visible_set.proofs.files.copies.Given as goal

abbrev pub invariant-loop-assignment : goal.invariant-loop-assignment
invariant-loop-assignment l = l.copies.items ++ drop l.assignment-index l.assigned ≡ l.assigned
