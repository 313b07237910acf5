use Rattle.std.proofs.Common.{take}
use Rattle.visible_set.specs.Offers.{AreTried}
use Rattle.visible_set.proofs.collecting.offers_of.Given as goal

abbrev pub invariant-loop-entry : goal.invariant-loop-entry
invariant-loop-entry l = AreTried l.config l.flips (take l.entry-index l.entry-items) l.found.hidden.items l.candidates.items l.hidden.items
