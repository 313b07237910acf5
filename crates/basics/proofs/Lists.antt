-- The parts of a list: its head and tail, and the rest from a place on.
use Rattle.std.proofs.Common.{◌≡◌, ◌∙◌, ◌+◌, ◌<◌, ℕ, suc, List, ◌∷◌, length, get_or, drop, drop-cons, add-one, ap, sym}

pub heads : {A : Type 0} (x y : A) (xs ys : List A) → x ∷ xs ≡ y ∷ ys → x ≡ y
heads {A} x y xs ys e = ap (λ (l : List A). get_or l 0 x) e

pub tails : {A : Type 0} (x y : A) (xs ys : List A) → x ∷ xs ≡ y ∷ ys → xs ≡ ys
tails {A} x y xs ys e = ap (λ (l : List A). drop 1 l) e

pub heads_and_tails : {A : Type 0} (x y : A) (xs ys : List A) → x ∷ xs ≡ y ∷ ys → (x ≡ y) × (xs ≡ ys)
heads_and_tails x y xs ys e = (heads x y xs ys e, tails x y xs ys e)

pub heads_differ : {A : Type 0} (x y : A) (xs ys : List A) → (x ≡ y → ⊥) → x ∷ xs ≡ y ∷ ys → ⊥
heads_differ x y xs ys apart e = apart (heads x y xs ys e)

-- the rest from a place on is what stands there and the rest behind it
pub at_drop : {A : Type 0} (xs : List A) (i : ℕ) (x : A) → i < length xs → x ≡ get_or xs i x → drop i xs ≡ x ∷ drop (i + 1) xs
at_drop {A} xs i x within is = drop-cons xs i x within ∙ (ap (λ (y : A). y ∷ drop (suc i) xs) (sym is) ∙ ap (λ (n : ℕ). x ∷ drop n xs) (sym (add-one i)))
