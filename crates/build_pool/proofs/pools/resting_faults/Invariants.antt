use Rattle.std.proofs.Common.{◌≡◌, ◌≤◌, ◌*◌, ◌^◌, ◌-◌, take}
use Rattle.std.specs.Prelude.{sum_by}
use Rattle.build_pool.proofs.pools.resting_faults.Given as goal

abbrev pub invariant-loop-builder : goal.invariant-loop-builder
invariant-loop-builder g l = (l.sum ≡ sum_by g.B.Builder.faults (take l.builder-index l.builders)) × (l.sum ≤ l.builder-index * (2 ^ 64 - 1))
