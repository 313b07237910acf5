use Rattle.std.proofs.Common.{map, take}
use Rattle.plan_rules.specs.Changes.{AreByLine, change_of}
use Rattle.plan_rules.proofs.order.by_line.Given as goal

abbrev pub invariant-loop-change : goal.invariant-loop-change
invariant-loop-change l = AreByLine (map change_of (take l.change-index l.changes)) l.found.lists
