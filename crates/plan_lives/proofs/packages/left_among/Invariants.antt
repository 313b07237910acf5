use Rattle.std.proofs.Common.{◌≡◌, ◌++◌, drop, map}
use Rattle.plan_lives.specs.Lives.{lives_of}
use Rattle.plan_lives.specs.Left.{left_among}
use Rattle.plan_lives.proofs.packages.left_among.Given as goal

abbrev pub invariant-loop-x : goal.invariant-loop-x
invariant-loop-x l = map (λ p. p.now) l.left.items ++ left_among (lives_of (drop l.x-index l.lives)) ≡ left_among (lives_of l.lives)
