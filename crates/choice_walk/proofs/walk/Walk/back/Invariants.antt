use Rattle.std.proofs.Common.{◌≡◌, length}
use Rattle.choice_walk.specs.Way.{above}
use Rattle.choice_walk.proofs.walk.Walk.back.Given as goal

abbrev pub invariant-loop-gone : goal.invariant-loop-gone
invariant-loop-gone l = (l.self.universe ≡ l.fn.self.universe) × (above l.self.trail.items ≡ above l.fn.self.trail.items)

abbrev pub decreases-loop-gone : goal.decreases-loop-gone
decreases-loop-gone l = length l.self.trail.items
