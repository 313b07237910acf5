use Rattle.plan_lives.specs.Lives.{lives_of}
use Rattle.plan_lives.specs.Meeting.{MayMeet}
use Rattle.plan_lives.specs.Stretches.{stretch_value}
use Rattle.plan_lives.proofs.Numbered.{Goes}
use Rattle.plan_lives.proofs.meetings.numbers_of.Given as goal

abbrev pub invariant-loop-g : goal.invariant-loop-g
invariant-loop-g l = Goes (MayMeet l.reach.groups.now (stretch_value l.stretch) (lives_of l.lives)) l.reach.groups.now l.g l.numbers.items
