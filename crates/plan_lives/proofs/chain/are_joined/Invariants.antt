use Rattle.std.proofs.Common.{◌+◌, length}
use Rattle.plan_lives.specs.Lives.{lives_of}
use Rattle.plan_lives.specs.Stretches.{stretch_value}
use Rattle.plan_lives.proofs.Joining.{AreJoining}
use Rattle.plan_lives.proofs.chain.are_joined.Given as goal

abbrev pub invariant-loop-x : goal.invariant-loop-x
invariant-loop-x l = AreJoining l.reach.groups.now (lives_of l.fits) (stretch_value l.stretch) (lives_of l.rest.items) (lives_of l.waiting.items)

abbrev pub decreases-loop-x : goal.decreases-loop-x
decreases-loop-x l = length l.rest.items + length l.waiting.items
