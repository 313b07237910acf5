use Rattle.pkg_state.proofs.Judged.{fine, only}
use Rattle.pkg_state.proofs.judging.consistent.Goals as goal

pub returns-clause-fine : goal.returns-clause-fine
returns-clause-fine c = fine c.args.packages.now c.judge_all.result c.judge_all.ensures.fault

pub returns-clause-only : goal.returns-clause-only
returns-clause-only c = only c.args.packages.now c.judge_all.result c.judge_all.ensures.ok c.judge_all.ensures.fault
