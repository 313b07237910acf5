-- Which paths stand in a list.
use Rattle.std.specs.Prelude.{◌≡◌, ℕ, Bool, List, bytes_eq}
use Rattle.std.specs.List.{list_any}

-- the path stands in the list
abbrev pub is_in : List (List ℕ) → List ℕ → Bool
is_in paths q = list_any (λ p. bytes_eq q p) paths

-- two lists with the same members
abbrev pub HasSame : List (List ℕ) → List (List ℕ) → Type 0
HasSame a b = (q : List ℕ) → is_in a q ≡ is_in b q
