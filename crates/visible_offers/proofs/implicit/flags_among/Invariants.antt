use Rattle.std.proofs.Common.{take}
use Rattle.visible_offers.proofs.Each.{AreFlags}
use Rattle.visible_offers.proofs.implicit.flags_among.Given as goal

abbrev pub invariant-loop-text : goal.invariant-loop-text
invariant-loop-text l = AreFlags (take l.text-index l.texts) l.flags
