-- Which groups reach which, as rows of bits.
use Rattle.std.specs.Prelude.{◌≡◌, ◌↔◌, ◌<◌, ◌≤◌, ◌*◌, ◌/◌, ◌%◌, ◌||◌, ℕ, Bool, true, false, nat_eq, List, [], ◌∷◌, get_or, length}
use Rattle.std.specs.Int.{bit_at}
use Rattle.plan_law.specs.Plans.{Group, Reaches}

-- the bit of a number in a row of words
abbrev pub has_bit : List ℕ → ℕ → Bool
has_bit words h = nat_eq (bit_at (get_or words (h / 64) 0) (h % 64)) 1

-- there is a row for each group, and it has the bits of the groups that reach it
pub record AreReaching (plan : List Group) (rows : List (List ℕ)) : Type 0 where
  pub count : length rows ≡ length plan
  pub wide : (g : ℕ) → g < length plan → length plan ≤ 64 * length (get_or rows g [])
  pub marks : (g h : ℕ) → g < length plan → h < length plan →
      (has_bit (get_or rows g []) h ≡ true) ↔ Reaches plan g h

-- one of the rows at these places has the bit
abbrev pub some_row : List (List ℕ) → List ℕ → ℕ → Bool
some_row rows [] k = false
some_row rows (h ∷ hs) k = has_bit (get_or rows h []) k || some_row rows hs k

-- so far the rows of one width are right
pub record AreRows (plan : List Group) (width : ℕ) (rows : List (List ℕ)) : Type 0 where
  pub wide : (g : ℕ) → g < length rows → length (get_or rows g []) ≡ width
  pub marks : (g h : ℕ) → g < length rows → (has_bit (get_or rows g []) h ≡ true) ↔ Reaches plan g h
