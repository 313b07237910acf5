-- The numbers by which the builders of a run are known.
use Rattle.std.specs.Prelude.{◌≡◌, ℕ, List, if◌then◌else◌, nat_lt, sum_by}
use Rattle.build_pool.specs.Pool.{is_number}

-- just one builder is known by each number below n, and none by another number
abbrev pub AreNumbered : {B : Type 0} → (B → ℕ) → ℕ → List B → Type 0
AreNumbered number n bs = (k : ℕ) →
    sum_by (λ b. is_number k (number b)) bs ≡ (if nat_lt k n then 1 else 0)
