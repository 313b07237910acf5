use Rattle.std.proofs.Common.{◌≡◌, ◌≤◌, drop, length, reverse}
use Rattle.plan_lives.specs.Clearings.{AreClearings}
use Rattle.plan_lives.specs.Lives.{lives_behind, lives_of}
use Rattle.plan_lives.proofs.lives.lives_of.Given as goal

abbrev pub invariant-loop-g : goal.invariant-loop-g
invariant-loop-g l = (l.g ≤ length l.groups) × AreClearings (drop l.g l.groups) l.g l.places.entries × (reverse (lives_of l.lives.items) ≡ lives_behind (drop l.g l.groups) l.g)

abbrev pub decreases-loop-g : goal.decreases-loop-g
decreases-loop-g l = l.g
