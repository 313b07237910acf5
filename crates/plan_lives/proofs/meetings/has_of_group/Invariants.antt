use Rattle.std.proofs.Common.{◌↔◌, drop}
use Rattle.plan_lives.specs.Lives.{lives_of}
use Rattle.plan_lives.specs.Meeting.{HasOfGroup}
use Rattle.plan_lives.proofs.meetings.has_of_group.Given as goal

abbrev pub invariant-loop-x : goal.invariant-loop-x
invariant-loop-x l = HasOfGroup (lives_of (drop l.x-index l.lives)) l.g ↔ HasOfGroup (lives_of l.lives) l.g
