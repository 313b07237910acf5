use Rattle.plan_lives.specs.Index.{plan_of, start_of}
use Rattle.plan_lives.specs.Lives.{life_of}
use Rattle.plan_lives.proofs.Within.{lives_within}
use Rattle.plan_check.proofs.blocked.keeps_out.Goals as goal

pub meets-requires-clause-birth : goal.meets-requires-clause-birth
meets-requires-clause-birth c = (lives_within (plan_of c.args.index.now) (start_of c.args.index.now) (life_of c.args.y.now) c.requires.y).0

pub meets-requires-clause-death : goal.meets-requires-clause-death
meets-requires-clause-death c = (lives_within (plan_of c.args.index.now) (start_of c.args.index.now) (life_of c.args.y.now) c.requires.y).1
