use Rattle.std.proofs.Common.{◌≡◌, replicate}
use Rattle.merge_core.specs.Roll.{resting}
use Rattle.merge_core.proofs.machine.resting_standings.Given as goal

abbrev pub invariant-loop : goal.invariant-loop
invariant-loop l = l.standings.items ≡ replicate l.counter resting
