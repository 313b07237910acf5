-- Lists whose items belong together place by place.
use Rattle.std.proofs.Common.{◌≡◌, ◌<◌, ◌≤◌, ◌+◌, ◌∙◌, ℕ, zero, suc, List, [], ◌∷◌, ◌++◌, length, get_or, drop, take, map, refl, sym, ap, subst, arith, add-one}
use Rattle.std.proofs.Math.Seq.{take-suc}
use Rattle.std.proofs.lemmas.List.{get_or-map, take_all}
use Rattle.std.specs.List.{AllZip}
use Rattle.plan_lives.proofs.Steps.{drop_end}

pub zip_push : {A B : Type 0} (R : A → B → Type 0) (xs : List A) (ys : List B) (x : A) (y : B) → AllZip R xs ys → R x y → AllZip R (xs ++ (x ∷ [])) (ys ++ (y ∷ []))
zip_push R [] [] x y h r = (r, tt)
zip_push R [] (b ∷ ys) x y h r = absurd h
zip_push R (a ∷ xs) [] x y h r = absurd h
zip_push R (a ∷ xs) (b ∷ ys) x y h r = (h.0, zip_push R xs ys x y h.1 r)

take_next : {A : Type 0} (xs : List A) (i : ℕ) (x : A) → i < length xs → x ≡ get_or xs i x → take (i + 1) xs ≡ take i xs ++ (x ∷ [])
take_next xs i x lt is = ap (λ (n : ℕ). take n xs) (add-one i) ∙ (take-suc xs i x lt ∙ ap (λ (y : _). take i xs ++ (y ∷ [])) (sym is))

-- one item more has its partner
pub zip_next : {A B : Type 0} (R : A → B → Type 0) (xs : List A) (ys : List B) (i : ℕ) (x : A) (y : B) → i < length xs → x ≡ get_or xs i x → AllZip R (take i xs) ys → R x y → AllZip R (take (i + 1) xs) (ys ++ (y ∷ []))
zip_next R xs ys i x y lt is so_far r = rw (take_next xs i x lt is) (zip_push R (take i xs) ys x y so_far r)

-- what a list is seen as has the view of its item at each place
pub seen_at : {A B : Type 0} (f : A → B) (xs : List A) (i : ℕ) (x : A) → i < length xs → x ≡ get_or xs i x → f x ≡ get_or (map f xs) i (f x)
seen_at f xs i x lt is = ap f is ∙ sym (get_or-map f xs i x (f x) lt)

pub seen_within : {A B : Type 0} (f : A → B) (xs : List A) (i : ℕ) → i < length xs → i < length (map f xs)
seen_within f [] i lt = absurd (omega (arith, lt))
seen_within f (x ∷ xs) zero lt = omega arith
seen_within f (x ∷ xs) (suc i) lt = let k = seen_within f xs i (omega (arith, lt)) in omega (arith, k)

seen_end : {A B : Type 0} (f : A → B) (xs : List A) (i : ℕ) → length xs ≤ i → length (map f xs) ≤ i
seen_end f [] i le = omega arith
seen_end f (x ∷ xs) zero le = absurd (omega (arith, le))
seen_end f (x ∷ xs) (suc i) le = let k = seen_end f xs i (omega (arith, le)) in omega (arith, k)

pub zip_end : {A B C : Type 0} (R : B → C → Type 0) (f : A → B) (xs : List A) (ys : List C) (i : ℕ) → length xs ≤ i → AllZip R (take i (map f xs)) ys → AllZip R (map f xs) ys
zip_end R f xs ys i le h = subst (λ (l : List _). AllZip R l ys) (take_all i (map f xs) (seen_end f xs i le)) h

-- nothing is left of the list at its end
pub seen_none : {A B : Type 0} (f : A → B) (xs : List A) (i : ℕ) → length xs ≤ i → drop i (map f xs) ≡ []
seen_none f xs i le = drop_end (map f xs) i (seen_end f xs i le)

pub zip_length : {A B : Type 0} (R : A → B → Type 0) (xs : List A) (ys : List B) → AllZip R xs ys → length ys ≡ length xs
zip_length R [] [] h = refl
zip_length R [] (y ∷ ys) h = absurd h
zip_length R (x ∷ xs) [] h = absurd h
zip_length R (x ∷ xs) (y ∷ ys) h = ap suc (zip_length R xs ys h.1)
