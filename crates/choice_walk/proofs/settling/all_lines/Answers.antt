use Rattle.choice_walk.proofs.Unsettled.{all_more}
use Rattle.choice_walk.proofs.settling.all_lines.Goals as goal

pub loop-line-preserved : goal.loop-line-preserved
loop-line-preserved c = all_more c.loop-line.line c.loop-line.lines c.add.new.lines c.loop-line.invariant c.add.ensures.kept c.in_ok-add.ensures.come
