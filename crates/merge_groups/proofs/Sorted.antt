-- Packages that are sorted by their lines in the text of a plan.
use Rattle.std.proofs.Common.{◌≡◌, ◌∙◌, ◌<◌, ◌≤◌, ◌&&◌, ℕ, suc, arith, true, false, is_lt, List, [], ◌∷◌, inl, refl, ap, get_or, length, map, sym}
use Rattle.std.specs.List.{AllByRecursion}
use Rattle.std.specs.List.Sorted.{IsPermutation, IsSortedBy}
use Rattle.std.proofs.lemmas.Cmp.{nat_list_cmp_total}
use Rattle.std.proofs.lemmas.List.Sorted.{IsPermutation-map, IsPermutation-sym, ranks_by, sorted_far}
use Rattle.std.proofs.lemmas.Map.Text.{is_eq-slice_cmp}
use Rattle.basics.specs.Members.{AreDistinct}
use Rattle.basics.proofs.Each.{all_by_has, all_has}
use Rattle.basics.proofs.Orderings.{less_if}
use Rattle.basics.proofs.Permutations.{distinct-moved, has-moved}
use Rattle.basics.proofs.Texts.{bytes_eq-apart}
use Rattle.pms_names.specs.Flags.{byte_order}
use Rattle.plan_text.specs.Words.{rise}

module _ {A : Type 0} (key : A → List ℕ) where
  -- none is below an earlier one
  abbrev Ascends : List A → Type 0
  Ascends xs = (i j : ℕ) (d : A) → i ≤ j → j < length xs → is_lt (byte_order (key (get_or xs j d)) (key (get_or xs i d))) ≡ false

  rise_if : (xs : List A) → Ascends xs → AreDistinct (map key xs) → rise (map key xs) ≡ true
  rise_if [] up d = refl
  rise_if (x ∷ []) up d = refl
  rise_if (x ∷ y ∷ ys) up d =
      let below = less_if (byte_order (key x) (key y)) (byte_order (key y) (key x)) (nat_list_cmp_total.antisymm (key x) (key y)) (up 0 1 x (omega arith) (omega arith))
      (is_eq-slice_cmp (key x) (key y) ∙ bytes_eq-apart (key x) (key y) (λ e. d.0 (inl (sym e)))) in
      ap (λ o. is_lt o && rise (map key (y ∷ ys))) below
      ∙ rise_if (y ∷ ys) (λ i j e le lt. up (suc i) (suc j) e (omega (arith, le)) (omega (arith, lt))) d.1

  -- what is sorted by texts that differ has texts that rise
  pub rise_sorted : (old new : List A) → IsPermutation old new → IsSortedBy (λ a b. is_lt (byte_order (key a) (key b))) new → AreDistinct (map key old) → rise (map key new) ≡ true
  rise_sorted old new perm sorted apart =
      rise_if new (sorted_far (λ a b. is_lt (byte_order (key a) (key b))) (ranks_by nat_list_cmp_total key) new sorted)
      (distinct-moved (map key old) (map key new) (IsPermutation-map key old new perm) apart)

-- what all have they have in another order, too
pub all_moved : {A : Type 0} (P : A → Type 0) (old new : List A) → IsPermutation old new → AllByRecursion P old → AllByRecursion P new
all_moved P old new perm all = all_by_has P new (λ x has. all_has P old x all (has-moved new old x (IsPermutation-sym old new perm) has))

-- texts that are those of what they belong to
pub texts_are : {A B : Type 0} (key : A → List ℕ) (f : A → B) (text : B → List ℕ) (xs : List A) → AllByRecursion (λ x. key x ≡ text (f x)) xs → map key xs ≡ map text (map f xs)
texts_are key f text [] all = refl
texts_are key f text (x ∷ xs) all = ap (λ t. t ∷ map key xs) all.0 ∙ ap (λ ts. text (f x) ∷ ts) (texts_are key f text xs all.1)
