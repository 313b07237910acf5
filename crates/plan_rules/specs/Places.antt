-- What stands at the other places of a list of lives.
use Rattle.std.specs.Prelude.{◌≡◌, ◌<◌, ℕ, List, get_or, length}
use Rattle.plan_law.specs.Lives.{Life}

-- the life stands at the place
pub record IsAt (all : List Life) (i : ℕ) (x : Life) : Type 0 where
  pub within : i < length all
  pub is : x ≡ get_or all i x

-- nothing at another place has the property
abbrev pub IsOfNoOther : List Life → ℕ → (Life → Type 0) → Type 0
IsOfNoOther all i P = (j : ℕ) (y : Life) → IsAt all j y → ¬ (j ≡ i) → ¬ P y
