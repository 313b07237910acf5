use Rattle.std.proofs.Common.{refl}
use Rattle.choice_walk.proofs.Marked.{marks_more}
use Rattle.choice_walk.proofs.marks.marks.Goals as goal

pub loop-decision-preserved : goal.loop-decision-preserved
loop-decision-preserved c =
    marks_more c.args.lines c.args.decisions.now c.loop-decision.decision-index _ _ c.mark.new.marks.items c.loop-decision-test.true refl (c.mark.ensures c.args.lines _ c.loop-decision.invariant)
