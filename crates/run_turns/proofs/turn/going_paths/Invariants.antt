use Rattle.std.proofs.Common.{◌≡◌, take}
use Rattle.run_turns.specs.Held.{held_for, holdings_of}
use Rattle.run_turns.proofs.turn.going_paths.Given as goal

abbrev pub invariant-loop-removal : goal.invariant-loop-removal
invariant-loop-removal l = l.paths.items ≡ held_for (holdings_of l.held) (take l.removal-index l.removals)
