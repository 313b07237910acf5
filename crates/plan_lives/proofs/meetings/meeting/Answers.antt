use Rattle.plan_lives.specs.Index.{plan_of, start_of}
use Rattle.plan_lives.specs.Lives.{life_of}
use Rattle.plan_lives.proofs.Within.{lives_within}
use Rattle.plan_lives.proofs.meetings.meeting.Goals as goal

pub numbers_of-requires-clause-within : goal.numbers_of-requires-clause-within
numbers_of-requires-clause-within c = lives_within (plan_of c.args.index.now) (start_of c.args.index.now) (life_of c.args.x.now) c.requires.x
