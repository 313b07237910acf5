use Rattle.std.proofs.Common.{take}
use Rattle.visible_rules.specs.Near.{AreNear}
use Rattle.visible_rules.proofs.near.Near.new.Given as goal

abbrev pub invariant-loop-item : goal.invariant-loop-item
invariant-loop-item l = AreNear (take l.item-index l.items) l.near
