-- The places of a number in a list, one more of them, and rising lists.
use Rattle.std.proofs.Common.{◌≡◌, ◌∙◌, ◌<◌, ◌+◌, ◌⊎◌, ◌++◌, ◌==◌, ℕ, zero, suc, Bool, true, false, cond, List, [], ◌∷◌, ap, arith, get_or, inl, inr, length, refl, replicate, subst, sym, take}
use Rattle.std.proofs.lemmas.Bool.{cases_eq, eqb-true, eq-eqb, ne_eqb}
use Rattle.std.proofs.lemmas.List.{append-nil, get_or-replicate, get_or-set_other, get_or-set_same, length-replicate, length-set, length-take, take_more}
use Rattle.basics.specs.Members.{Has}
use Rattle.merge_graph.specs.Rows.{AreRising, AreRows, places_from, places_of, with_place}

-- the place, where a test holds
abbrev pub if_so : Bool → ℕ → List ℕ
if_so b at = cond b (at ∷ []) []

cond_append : (b : Bool) (x : ℕ) (xs ys : List ℕ) → cond b (x ∷ xs ++ ys) (xs ++ ys) ≡ cond b (x ∷ xs) xs ++ ys
cond_append true x xs ys = refl
cond_append false x xs ys = refl

cond_nil : (b : Bool) (x : ℕ) → cond b (x ∷ []) [] ≡ [] ++ if_so b x
cond_nil true x = refl
cond_nil false x = refl

pub places_from-push : (at : ℕ) (xs : List ℕ) (y k : ℕ) → places_from at (xs ++ y ∷ []) k ≡ places_from at xs k ++ if_so (y == k) (at + length xs)
places_from-push at [] y k =
    let none : at ≡ at + 0 = omega arith in
    cond_nil (y == k) at ∙ ap (λ (n : ℕ). [] ++ if_so (y == k) n) none
places_from-push at (x ∷ xs) y k =
    let one : suc at + length xs ≡ at + suc (length xs) = omega arith in
    let later : places_from (suc at) (xs ++ y ∷ []) k ≡ places_from (suc at) xs k ++ if_so (y == k) (at + suc (length xs)) = places_from-push (suc at) xs y k ∙ ap (λ (n : ℕ). places_from (suc at) xs k ++ if_so (y == k) n) one in
    ap (λ (l : List ℕ). cond (x == k) (at ∷ l) l) later ∙ cond_append (x == k) at (places_from (suc at) xs k) (if_so (y == k) (at + suc (length xs)))

pub places_more : (xs : List ℕ) (i k : ℕ) → i < length xs → places_of (take (i + 1) xs) k ≡ places_of (take i xs) k ++ if_so (get_or xs i 0 == k) i
places_more xs i k less =
    let long : 0 + length (take i xs) ≡ i = omega (arith, length-take i xs) in
    ap (λ (l : List ℕ). places_of l k) (take_more xs i 0 less)
    ∙ (places_from-push 0 (take i xs) (get_or xs i 0) k ∙ ap (λ (n : ℕ). places_of (take i xs) k ++ if_so (get_or xs i 0 == k) n) long)

pub row_with : (xs row : List ℕ) (i k : ℕ) → i < length xs → row ≡ places_of (take i xs) k → get_or xs i 0 ≡ k → row ++ i ∷ [] ≡ places_of (take (i + 1) xs) k
row_with xs row i k less is same =
    ap (λ (l : List ℕ). l ++ i ∷ []) is
    ∙ sym (places_more xs i k less ∙ ap (λ (b : Bool). places_of (take i xs) k ++ if_so b i) (eq-eqb (get_or xs i 0) k same))

pub row_without : (xs row : List ℕ) (i k : ℕ) → i < length xs → row ≡ places_of (take i xs) k → (get_or xs i 0 ≡ k → ⊥) → row ≡ places_of (take (i + 1) xs) k
row_without xs row i k less is other =
    is ∙ sym (places_more xs i k less ∙ (ap (λ (b : Bool). places_of (take i xs) k ++ if_so b i) (ne_eqb (get_or xs i 0) k other) ∙ append-nil (places_of (take i xs) k)))

pub no_rows : (count : ℕ) (rows : List (List ℕ)) → rows ≡ replicate count [] → AreRows [] count rows
no_rows count rows is = record {
  each = ap length is ∙ length-replicate count [];
  row = λ k less. ap (λ (l : List (List ℕ)). get_or l k []) is ∙ get_or-replicate count k [] [] less;
}

pub rows_more : (xs : List ℕ) (count : ℕ) (rows : List (List ℕ)) (i x : ℕ) → i < length xs → x ≡ get_or xs i 0 → AreRows (take i xs) count rows → AreRows (take (i + 1) xs) count (with_place rows x i)
rows_more xs count rows i x less is are = record {
  each = length-set rows x (get_or rows x [] ++ i ∷ []) ∙ are.each;
  row = λ k below. elim (cases_eq x k) [
    | inl same ↦ (
        let within : x < length rows = omega (arith, below, same, are.each) in
        let at : get_or (with_place rows x i) k [] ≡ get_or rows x [] ++ i ∷ [] = ap (λ (n : ℕ). get_or (with_place rows x i) n []) (sym same) ∙ get_or-set_same rows x (get_or rows x [] ++ i ∷ []) [] within in
        at ∙ row_with xs (get_or rows x []) i k less (ap (λ (n : ℕ). get_or rows n []) same ∙ are.row k below) (sym is ∙ same)
        )
    | inr apart ↦ get_or-set_other rows x k (get_or rows x [] ++ i ∷ []) [] (λ e. apart (sym e)) ∙ row_without xs (get_or rows k []) i k less (are.row k below) (λ e. apart (is ∙ e))
  ];
}

module _ (k : ℕ) where
  back_cond : (b : Bool) (at : ℕ) (l : List ℕ) (x : ℕ) → Has (cond b (at ∷ l) l) x → ((b ≡ true) × (at ≡ x)) ⊎ Has l x
  back_cond true at l x (inl e) = inl (refl, e)
  back_cond true at l x (inr h) = inr h
  back_cond false at l x h = inr h

  -- a place of the number holds it
  pub places-back : (at : ℕ) (xs : List ℕ) (x : ℕ) → Has (places_from at xs k) x → (i : ℕ) × (i < length xs) × (x ≡ at + i) × (get_or xs i 0 ≡ k)
  places-back at [] x h = absurd h
  places-back at (y ∷ ys) x h = elim (back_cond (y == k) at (places_from (suc at) ys k) x h) [
    | inl one ↦ (let e : x ≡ at + 0 = omega (arith, one.1) in let less : 0 < suc (length ys) = omega arith in (0, less, e, eqb-true y k one.0))
    | inr more ↦ (
        let r = places-back (suc at) ys x more in
        let less : suc r.0 < suc (length ys) = omega (arith, r.1) in
        let e : x ≡ at + suc r.0 = omega (arith, r.2) in
        (suc r.0, less, e, r.3)
        )
  ]

  first_in : (b : Bool) (at : ℕ) (l : List ℕ) → b ≡ true → Has (cond b (at ∷ l) l) at
  first_in true at l e = inl refl
  first_in false at l e = absurd (cc e)

  later_in : (b : Bool) (at : ℕ) (l : List ℕ) (x : ℕ) → Has l x → Has (cond b (at ∷ l) l) x
  later_in true at l x h = inr h
  later_in false at l x h = h

  -- and each place that holds it is one
  pub places-of : (at : ℕ) (xs : List ℕ) (i : ℕ) → i < length xs → get_or xs i 0 ≡ k → Has (places_from at xs k) (at + i)
  places-of at [] i less is = absurd (omega (arith, less))
  places-of at (y ∷ ys) zero less is =
      let e : at ≡ at + zero = omega arith in
      subst (λ (n : ℕ). Has (places_from at (y ∷ ys) k) n) e (first_in (y == k) at (places_from (suc at) ys k) (eq-eqb y k is))
  places-of at (y ∷ ys) (suc i) less is =
      let e : suc at + i ≡ at + suc i = omega arith in
      later_in (y == k) at (places_from (suc at) ys k) (at + suc i) (subst (λ (n : ℕ). Has (places_from (suc at) ys k) n) e (places-of (suc at) ys i (omega (arith, less)) is))

pub has_place : (xs : List ℕ) (k i : ℕ) → i < length xs → get_or xs i 0 ≡ k → Has (places_of xs k) i
has_place xs k i less is = let e : 0 + i ≡ i = omega arith in subst (λ (n : ℕ). Has (places_of xs k) n) e (places-of k 0 xs i less is)

pub place_holds : (xs : List ℕ) (k i : ℕ) → Has (places_of xs k) i → (i < length xs) × (get_or xs i 0 ≡ k)
place_holds xs k i h =
    let r = places-back k 0 xs i h in
    let e : r.0 ≡ i = omega (arith, r.2) in
    (omega (arith, e, r.1), ap (λ (n : ℕ). get_or xs n 0) (sym e) ∙ r.3)

rising_cond : (b : Bool) (at : ℕ) (l : List ℕ) → ((y : ℕ) → Has l y → at < y) → AreRising l → AreRising (cond b (at ∷ l) l)
rising_cond true at l above rest = (above, rest)
rising_cond false at l above rest = rest

rising_from : (at : ℕ) (xs : List ℕ) (k : ℕ) → AreRising (places_from at xs k)
rising_from at [] k = tt
rising_from at (x ∷ xs) k = rising_cond (x == k) at (places_from (suc at) xs k) (λ y h. let r = places-back k (suc at) xs y h in omega (arith, r.2)) (rising_from (suc at) xs k)

-- the places of a number rise
pub places_rise : (xs : List ℕ) (k : ℕ) → AreRising (places_of xs k)
places_rise xs k = rising_from 0 xs k
