-- Lists of numbers: rising ones, and the places at which a number stands.
use Rattle.std.specs.Prelude.{◌≡◌, ◌<◌, ◌==◌, ◌++◌, ℕ, suc, List, [], ◌∷◌, get_or, length, set, if◌then◌else◌, ⊤}
use Rattle.basics.specs.Members.{Has}

-- each number is above those before it
abbrev pub AreRising : List ℕ → Type 0
AreRising [] = ⊤
AreRising (x ∷ xs) = ((y : ℕ) → Has xs y → x < y) × AreRising xs

-- from this place on, the places at which the number stands, rising
abbrev pub places_from : ℕ → List ℕ → ℕ → List ℕ
places_from at [] k = []
places_from at (x ∷ xs) k =
    if x == k then at ∷ places_from (suc at) xs k else places_from (suc at) xs k

-- the places at which the number stands, rising
abbrev pub places_of : List ℕ → ℕ → List ℕ
places_of numbers k = places_from 0 numbers k

-- with one place more for a number
abbrev pub with_place : List (List ℕ) → ℕ → ℕ → List (List ℕ)
with_place rows k at = set rows k (get_or rows k [] ++ at ∷ [])

-- these are the places of each number below the count
pub record AreRows (numbers : List ℕ) (count : ℕ) (rows : List (List ℕ)) : Type 0 where
  pub each : length rows ≡ count
  pub row : (k : ℕ) → k < count → get_or rows k [] ≡ places_of numbers k
