-- No entry that was looked at has the number.
use Rattle.std.proofs.Common.{◌≡◌, ◌≤◌, ℕ, Some}
use Rattle.std.specs.Prelude.{slice_get}
use Rattle.build_pool.specs.declared.pools.Away.{Away}
use Rattle.build_pool.proofs.pools.last_place_of.Given as goal

abbrev pub invariant-loop-at : goal.invariant-loop-at
invariant-loop-at l = (k : ℕ) (d : Away) → l.at ≤ k → slice_get l.lent k ≡ Some d → d.number ≡ l.number → ⊥
