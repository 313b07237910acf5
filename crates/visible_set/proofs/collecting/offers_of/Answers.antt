use Rattle.visible_set.proofs.OfferLemmas.{tried_more}
use Rattle.visible_set.proofs.collecting.offers_of.Goals as goal

pub loop-entry-preserved : goal.loop-entry-preserved
loop-entry-preserved c = tried_more c.args.config.now c.args.flips c.deref-entry-items.result.now c.loop-entry.entry-index c.entry-item.result c.in_ok-one.one c.args.found.now.hidden.items c.loop-entry.candidates.items c.add.new.candidates.items c.loop-entry.hidden.items c.add.new.hidden.items c.loop-entry-test.true c.entry-item.is c.loop-entry.invariant c.in_ok-one.ensures c.in_ok-add.ensures.candidates c.in_ok-add.ensures.hidden
