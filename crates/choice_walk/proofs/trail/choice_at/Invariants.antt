use Rattle.std.proofs.Common.{◌≡◌, map, take}
use Rattle.choice_walk.proofs.trail.choice_at.Given as goal

abbrev pub invariant-loop-turn : goal.invariant-loop-turn
invariant-loop-turn l = l.decisions.items ≡ map (λ t. t.decision) (take l.turn-index l.trail)
