use Rattle.std.proofs.Common.{◌≡◌, map, take}
use Rattle.choice_tree.specs.Steps.{after}
use Rattle.choice_walk.proofs.branching.options_by.Given as goal

abbrev pub invariant-loop-step : goal.invariant-loop-step
invariant-loop-step l = l.out.items ≡ map (after l.choice) (take l.step-index l.steps)
