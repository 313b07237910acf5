use Rattle.visible_offers.proofs.Each.{one_more}
use Rattle.visible_offers.proofs.implicit.flags_among.Goals as goal

pub loop-text-preserved : goal.loop-text-preserved
loop-text-preserved c = one_more c.args.texts.now c.loop-text.text-index c.text-item.result c.loop-text.flags c.add_flag.new.flags c.loop-text-test.true c.text-item.is c.loop-text.invariant c.in_ok-add_flag.ensures
