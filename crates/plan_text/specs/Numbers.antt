-- Numbers in the text of a plan: decimal digits without a leading zero.
use Rattle.std.specs.Prelude.{◌≡◌, ◌<◌, ◌≤◌, ◌&&◌, ℕ, Bool, true, List, [], ◌∷◌, decimal, length, nat_lt}
use Rattle.std.specs.List.{AllByRecursion}

-- the greatest number that is written
abbrev pub most_number : ℕ
most_number = 4294967295

pub record IsNumber (n : ℕ) : Type 0 where
  pub some : 0 < n
  pub few : n ≤ most_number

-- the word writes the number, which isn't 0
abbrev pub IsWritten : ℕ → List ℕ → Type 0
IsWritten n word = (0 < n) × (word ≡ decimal n)

-- there are some
abbrev pub AreNumbers : List ℕ → Type 0
AreNumbers ns = (0 < length ns) × AllByRecursion IsNumber ns

-- the numbers rise from above the one and stay below the other
abbrev pub rise_between : ℕ → ℕ → List ℕ → Bool
rise_between low high [] = true
rise_between low high (n ∷ ns) = (nat_lt low n && nat_lt n high) && rise_between n high ns
