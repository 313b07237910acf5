use Rattle.std.proofs.Common.{refl}
use Rattle.choice_walk.proofs.Unsettled.{kept_both, list_more}
use Rattle.choice_walk.proofs.settling.add_all.Goals as goal

pub loop-line-preserved : goal.loop-line-preserved
loop-line-preserved c = (
  kept_both _ _ _ c.loop-line.invariant.0 c.add.ensures.kept,
  list_more c.args.more.now c.loop-line.line-index _ _ c.loop-line.lines c.add.new.lines c.loop-line-test.true refl c.loop-line.invariant.1 c.add.ensures.kept c.in_ok-add.ensures.come,
)
