use Rattle.std.proofs.Common.{length}
use Rattle.plan_lives.specs.Index.{plan_of, start_of}
use Rattle.plan_lives.specs.Lives.{life_of}
use Rattle.plan_lives.proofs.Steps.{commit_within}
use Rattle.plan_lives.proofs.Within.{lives_within}
use Rattle.plan_check.proofs.lasting.judge_built.Goals as goal

pub judge_class-requires-clause-there : goal.judge_class-requires-clause-there
judge_class-requires-clause-there c = commit_within (length (plan_of c.args.index.now)) c.in-Commit.g c.args.x.now.birth c.in-Commit.is (lives_within (plan_of c.args.index.now) (start_of c.args.index.now) (life_of c.args.x.now) c.requires.x).0

pub judge_class-requires-in-Commit-clause-there : goal.judge_class-requires-in-Commit-clause-there
judge_class-requires-in-Commit-clause-there c = commit_within (length (plan_of c.args.index.now)) c.in-Commit.g c.args.x.now.birth c.in-Commit.is (lives_within (plan_of c.args.index.now) (start_of c.args.index.now) (life_of c.args.x.now) c.requires.x).0

pub judge_class-requires-in-Commit-2-clause-there : goal.judge_class-requires-in-Commit-2-clause-there
judge_class-requires-in-Commit-2-clause-there c = commit_within (length (plan_of c.args.index.now)) c.in-Commit.g c.args.x.now.birth c.in-Commit.is (lives_within (plan_of c.args.index.now) (start_of c.args.index.now) (life_of c.args.x.now) c.requires.x).0
