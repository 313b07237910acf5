use Rattle.std.proofs.Common.{◌≡◌, ◌≤◌, ◌*◌, ◌^◌, ◌-◌, take}
use Rattle.std.specs.Prelude.{sum_by}
use Rattle.build_pool.proofs.pools.lent_faults.Given as goal

abbrev pub invariant-loop-away : goal.invariant-loop-away
invariant-loop-away l = (l.sum ≡ sum_by (λ a. a.faults) (take l.away-index l.lent)) × (l.sum ≤ l.away-index * (2 ^ 64 - 1))
