use Rattle.std.proofs.Common.{ap}
use Rattle.plan_law.specs.Lives as law
use Rattle.plan_lives.specs.Index.{plan_of}
use Rattle.plan_lives.specs.Lives.{life_of, lives_of, moment_of}
use Rattle.plan_check.proofs.KeptOut.{none_barred}
use Rattle.plan_check.proofs.blocked.judge_strong.Goals as goal

pub judge_coming-requires-clause-comes : goal.judge_coming-requires-clause-comes
judge_coming-requires-clause-comes c = ap moment_of c.in-Commit.is

pub returns-in-Opening : goal.returns-in-Opening
returns-in-Opening c = none_barred (plan_of c.args.index.now) (lives_of c.args.all.now) (life_of c.args.x.now) law.opening (ap moment_of c.in-Opening.is) (λ y h. h) c.judge_kept.result c.judge_kept.ensures

pub returns-in-Never : goal.returns-in-Never
returns-in-Never c = none_barred (plan_of c.args.index.now) (lives_of c.args.all.now) (life_of c.args.x.now) law.never (ap moment_of c.in-Never.is) (λ y h. h) c.judge_kept-in-Never.result c.judge_kept-in-Never.ensures
