use Rattle.std.proofs.Common.{take}
use Rattle.visible_rules.specs.Index.{AreUnder, is_item_of}
use Rattle.visible_rules.proofs.named.items_by_name.Given as goal

abbrev pub invariant-loop-item : goal.invariant-loop-item
invariant-loop-item l = AreUnder is_item_of (take l.item-index l.items) l.named.lists
