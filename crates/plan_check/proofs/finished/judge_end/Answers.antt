use Rattle.plan_check.proofs.finished.judge_end.Goals as goal

pub returns-in-Never : goal.returns-in-Never
returns-in-Never c = rw c.in-Never.is c.judge_left.ensures
