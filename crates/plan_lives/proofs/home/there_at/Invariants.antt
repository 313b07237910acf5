use Rattle.std.proofs.Common.{map, take}
use Rattle.plan_lives.specs.Home.{IsThereAt}
use Rattle.plan_lives.specs.Index.{plan_of}
use Rattle.plan_lives.specs.Lives.{lives_of, moment_of}
use Rattle.plan_lives.proofs.Picked.{ArePicked}
use Rattle.plan_lives.proofs.home.there_at.Given as goal

abbrev pub invariant-loop-x : goal.invariant-loop-x
invariant-loop-x l = ArePicked (IsThereAt (plan_of l.index) (moment_of l.moment)) (lives_of (take l.x-index l.x-items)) (map (λ p. p.now) l.found.items)
