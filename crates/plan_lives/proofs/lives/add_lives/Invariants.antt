use Rattle.std.proofs.Common.{◌≡◌, ◌≤◌, ◌++◌, drop, length, map, reverse}
use Rattle.plan_lives.specs.Clearings.{life_at}
use Rattle.plan_lives.specs.Lives.{lives_of, moment_of}
use Rattle.plan_lives.proofs.lives.add_lives.Given as goal

abbrev pub invariant-loop-left : goal.invariant-loop-left
invariant-loop-left l = (l.left ≤ length l.packages) × (reverse (lives_of l.lives.items) ≡ map (life_at (moment_of l.birth) l.places.entries) (drop l.left l.packages) ++ reverse (lives_of l.fn.lives.items))

abbrev pub decreases-loop-left : goal.decreases-loop-left
decreases-loop-left l = l.left
