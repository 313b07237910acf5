-- Lists that are gathered item by item, and candidates that are put by their ranks.
use Rattle.std.proofs.Common.{◌≡◌, ◌∙◌, ◌<◌, ◌+◌, ◌-◌, ◌++◌, ℕ, zero, suc, Bool, true, false, cond, List, [], ◌∷◌, ap, arith, drop, filter, get_or, length, map, refl, sym, take}
use Rattle.std.specs.List.{flat_map}
use Rattle.std.specs.Ordering.{is_gt}
use Rattle.std.proofs.lemmas.Grind.{flat_map-append}
use Rattle.std.proofs.lemmas.List.{append_assoc}
use Rattle.choice_tree.specs.Candidates.{Candidate, put, rank}
use Rattle.choice_tree.specs.Places.{numbers}
use Rattle.choice_tree.proofs.Numbers.{numbers_next}

pub mapped_insert : {A B : Type 0} (f : A → B) (xs : List A) (i : ℕ) (x : A) → map f (take i xs ++ x ∷ drop i xs) ≡ take i (map f xs) ++ f x ∷ drop i (map f xs)
mapped_insert f [] zero x = refl
mapped_insert f [] (suc i) x = refl
mapped_insert f (y ∷ ys) zero x = refl
mapped_insert f (y ∷ ys) (suc i) x = ap (λ zs. f y ∷ zs) (mapped_insert f ys i x)

-- the items of one more number
pub more_lines : {B : Type 0} (f : ℕ → List B) (n l : ℕ) → l < n → (old new r : List B) → new ≡ old ++ f l → old ++ flat_map f (numbers (n - l) l) ≡ r → new ++ flat_map f (numbers (n - (l + 1)) (l + 1)) ≡ r
more_lines {B} f n l less old new r is before =
    let later = flat_map f (numbers (n - (l + 1)) (l + 1)) in
    ap (λ (xs : List B). xs ++ later) is
    ∙ (append_assoc old (f l) later ∙ (ap (λ (ls : List ℕ). old ++ flat_map f ls) (sym (numbers_next n l less)) ∙ before))

filter_first : {A : Type 0} (keep : A → Bool) (x : A) (xs : List A) → filter keep (x ∷ xs) ≡ filter keep (x ∷ []) ++ filter keep xs
filter_first keep x xs = by_case (keep x) refl where
  by_case : (b : Bool) → keep x ≡ b → filter keep (x ∷ xs) ≡ filter keep (x ∷ []) ++ filter keep xs
  by_case true e = ap (λ b. cond b (x ∷ filter keep xs) (filter keep xs)) e ∙ sym (ap (λ b. cond b (x ∷ []) [] ++ filter keep xs) e)
  by_case false e = ap (λ b. cond b (x ∷ filter keep xs) (filter keep xs)) e ∙ sym (ap (λ b. cond b (x ∷ []) [] ++ filter keep xs) e)

-- the items of one more that is kept, or none
pub more_kept : {A B : Type 0} (f : A → List B) (keep : A → Bool) (x : A) (rest : List A) (old new r : List B) → new ≡ old ++ flat_map f (filter keep (x ∷ [])) → old ++ flat_map f (filter keep (x ∷ rest)) ≡ r → new ++ flat_map f (filter keep rest) ≡ r
more_kept {A} {B} f keep x rest old new r is before =
    ap (λ (ys : List B). ys ++ flat_map f (filter keep rest)) is
    ∙ (append_assoc old (flat_map f (filter keep (x ∷ []))) (flat_map f (filter keep rest))
    ∙ (ap (λ (ys : List B). old ++ ys) (sym (flat_map-append f (filter keep (x ∷ [])) (filter keep rest)))
    ∙ (ap (λ (ys : List A). old ++ flat_map f ys) (sym (filter_first keep x rest)) ∙ before)))

module _ (update : Bool) (x : Candidate) where
  pub put_past : (ys : List Candidate) (i : ℕ) (d : Candidate) → i < length ys → is_gt (rank update (get_or ys i d) x) ≡ false → take (suc i) ys ++ put update x (drop (suc i) ys) ≡ take i ys ++ put update x (drop i ys)
  put_past [] i d less e = absurd (omega (arith, less))
  put_past (y ∷ ys) zero d less e = sym (ap (λ (b : Bool). cond b (x ∷ y ∷ ys) (y ∷ put update x ys)) e)
  put_past (y ∷ ys) (suc i) d less e = ap (λ (zs : List Candidate). y ∷ zs) (put_past ys i d (omega (arith, less)) e)

  pub put_here : (ys : List Candidate) (i : ℕ) (d : Candidate) → i < length ys → is_gt (rank update (get_or ys i d) x) ≡ true → take i ys ++ put update x (drop i ys) ≡ take i ys ++ x ∷ drop i ys
  put_here [] i d less e = absurd (omega (arith, less))
  put_here (y ∷ ys) zero d less e = ap (λ (b : Bool). cond b (x ∷ y ∷ ys) (y ∷ put update x ys)) e
  put_here (y ∷ ys) (suc i) d less e = ap (λ (zs : List Candidate). y ∷ zs) (put_here ys i d (omega (arith, less)) e)
