use Rattle.std.proofs.Common.{◌≡◌, ◌≤◌, drop, length, map}
use Rattle.choice_tree.specs.Steps.{decision_as}
use Rattle.choice_walk.specs.Way.{here}
use Rattle.choice_ends.proofs.standing.walk_to.Given as goal

abbrev pub invariant-loop-left : goal.invariant-loop-left
invariant-loop-left l =
    (l.walk.universe.now ≡ l.universe)
    × (l.left ≤ length l.decisions)
    × (here l.walk.trail.items ≡ map decision_as (drop l.left l.decisions))

abbrev pub decreases-loop-left : goal.decreases-loop-left
decreases-loop-left l = l.left
