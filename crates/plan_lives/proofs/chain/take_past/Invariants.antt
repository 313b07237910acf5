use Rattle.std.proofs.Common.{drop}
use Rattle.plan_law.specs.Lives.{IsPast}
use Rattle.plan_lives.specs.Chains.{AreParted}
use Rattle.plan_lives.specs.Lives.{lives_of}
use Rattle.plan_lives.specs.Stretches.{stretch_value}
use Rattle.plan_lives.proofs.chain.take_past.Given as goal

abbrev pub invariant-loop-x : goal.invariant-loop-x
invariant-loop-x l = AreParted (IsPast l.reach.groups.now (stretch_value l.stretch)) (lives_of l.fits) (lives_of (drop l.x-index l.fits)) (lives_of l.others.items) (lives_of l.fn.waiting.items) (lives_of l.waiting.items)
