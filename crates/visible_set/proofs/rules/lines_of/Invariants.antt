use Rattle.std.proofs.Common.{filter, take}
use Rattle.std.specs.List.{AllZip}
use Rattle.visible_set.specs.Configured.{IsLineOf, is_for_some}
use Rattle.visible_set.proofs.rules.lines_of.Given as goal

abbrev pub invariant-loop-item : goal.invariant-loop-item
invariant-loop-item l = AllZip IsLineOf (filter is_for_some (take l.item-index l.items)) l.lines.items
