-- The parts of a path one after the other, and the first element of a list.
use Rattle.std.proofs.Common.{◌≡◌, ◌<◌, ◌+◌, ◌==◌, ℕ, zero, suc, true, List, [], ◌∷◌, ◌++◌, length, take, drop, get_or, Some, refl, ap, sym, ◌∙◌, subst, inl, inr, arith}
use Rattle.std.specs.Prelude.{bytes_eq, slice_get}
use Rattle.std.specs.List.{AllByRecursion}
use Rattle.std.proofs.lemmas.Bool.{and_from, cases_lt, eq-eqb}
use Rattle.std.proofs.lemmas.Slice.Eq.{bytes_eq-Decides}
use Rattle.std.proofs.lemmas.List.{length-take-le}
use Rattle.std.proofs.lemmas.Option.{slice_get_read}
use Rattle.file_tree.specs.Disk.{Map}
use Rattle.file_tree.specs.Paths.{is_below}
use Rattle.merge_fit.specs.Images.{HoldsPart, IsFirst}

-- no part before this place holds anything
abbrev pub NoneBefore : Map → List ℕ → ℕ → Type 0
NoneBefore m path at = (k : ℕ) → k < at → HoldsPart m path k → ⊥

-- what stands before a slash is above the path
pub part_is_above : (path : List ℕ) (at : ℕ) → at < length path → get_or path at 0 ≡ 47 → is_below (take at path) path ≡ true
part_is_above path at within slash =
    let n : length (take at path) ≡ at = length-take-le at path (omega (arith, within)) in
    and_from (bytes_eq (take at path) (take (length (take at path)) path)) (get_or path (length (take at path)) 0 == 47)
    ((bytes_eq-Decides (take at path) (take (length (take at path)) path)).1 (sym (ap (λ (k : ℕ). take k path) n)))
    (eq-eqb (get_or path (length (take at path)) 0) 47 (ap (λ (k : ℕ). get_or path k 0) n ∙ slash))

-- one more place at which no part holds anything
pub none_more : (m : Map) (path : List ℕ) (at : ℕ) → NoneBefore m path at → (HoldsPart m path at → ⊥) → NoneBefore m path (at + 1)
none_more m path at none here k lt = elim (cases_lt k at) [
  | inl before ↦ none k before
  | inr ge ↦ (let same : k ≡ at = omega (arith, lt, ge) in λ holds. here (subst (λ (n : ℕ). HoldsPart m path n) same holds))
]

split_at : {A : Type 0} (xs : List A) (n : ℕ) (x : A) → slice_get xs n ≡ Some x → xs ≡ take n xs ++ x ∷ drop (suc n) xs
split_at [] n x there = absurd (cc there)
split_at (y ∷ xs) zero x there = let same : y ≡ x = (let f : Some y ≡ Some x = there in cc) in ap (λ z. z ∷ xs) same
split_at (y ∷ xs) (suc n) x there = ap (λ l. y ∷ l) (split_at xs n x there)

-- the element at this place is the first
pub first_at : {A : Type 0} (P Q : A → Type 0) (xs : List A) (n : ℕ) (x : A) → n < length xs → x ≡ get_or xs n x → AllByRecursion P (take n xs) → Q x → IsFirst P Q xs
first_at P Q xs n x within is all has = let there = slice_get_read xs (length xs) n x refl within is in record { front = take n xs; here = x; back = drop (suc n) xs; is = split_at xs n x there; before = all; has = has }
