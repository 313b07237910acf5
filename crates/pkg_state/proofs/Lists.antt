-- Tests of the members of a list.
use Rattle.std.proofs.Common.{◌≡◌, ◌⊎◌, ◌∙◌, ◌<◌, ◌≤◌, ◌+◌, ◌||◌, ℕ, suc, Bool, true, false, cond, List, [], ◌∷◌, ◌++◌, Option, Some, None, add-one, drop, drop-cons, filter, get_or, length, map, refl, ap, sym, subst, take, inl, inr}
use Rattle.std.specs.List.{find, list_any}
use Rattle.std.specs.Option.{option_map, option_or}
use Rattle.std.proofs.lemmas.Bool.{cases_Bool, or_from, or_parts}
use Rattle.std.proofs.lemmas.List.{take-append-drop, take_all}
use Rattle.std.proofs.lemmas.List.Folds.{find-append, list_any-append, list_any_more}
use Rattle.basics.specs.Members.{Has}

module _ {A : Type 0} (f : A → Bool) where
  -- no member passes
  pub none_passes : (xs : List A) → list_any f xs ≡ false → (x : A) → Has xs x → f x ≡ false
  none_passes [] h x has = absurd has
  none_passes (y ∷ xs) h x (inl e) = subst (λ (z : A). f z ≡ false) e (or_parts (f y) (list_any f xs) h).0
  none_passes (y ∷ xs) h x (inr has) = none_passes xs (or_parts (f y) (list_any f xs) h).1 x has

  pub any_none : (xs : List A) → ((x : A) → Has xs x → f x ≡ false) → list_any f xs ≡ false
  any_none [] h = refl
  any_none (y ∷ xs) h = or_from (f y) (list_any f xs) (h y (inl refl)) (any_none xs (λ x has. h x (inr has)))

  -- the first that passes is a member that passes
  pub found_passes : (xs : List A) (x : A) → find f xs ≡ Some x → Has xs x × (f x ≡ true)
  found_passes [] x h = absurd (cc h)
  found_passes (y ∷ xs) x h = elim (cases_Bool (f y)) [
    | inl e ↦ (let same : y ≡ x = (let s : cond true (Some y) (find f xs) ≡ Some x = subst (λ (b : Bool). cond b (Some y) (find f xs) ≡ Some x) e h in cc s) in
        (inl same, subst (λ (z : A). f z ≡ true) same e))
    | inr e ↦ (let r = found_passes xs x (subst (λ (b : Bool). cond b (Some y) (find f xs) ≡ Some x) e h) in (inr r.0, r.1))
  ]

  pub none_found : (xs : List A) → find f xs ≡ None → list_any f xs ≡ false
  none_found [] h = refl
  none_found (y ∷ xs) h = elim (cases_Bool (f y)) [
    | inl e ↦ absurd (let s : cond true (Some y) (find f xs) ≡ None = subst (λ (b : Bool). cond b (Some y) (find f xs) ≡ None) e h in cc s)
    | inr e ↦ or_from (f y) (list_any f xs) e (none_found xs (subst (λ (b : Bool). cond b (Some y) (find f xs) ≡ None) e h))
  ]

  pub not_found : (xs : List A) → list_any f xs ≡ false → find f xs ≡ None
  not_found [] h = refl
  not_found (y ∷ xs) h =
      let both = or_parts (f y) (list_any f xs) h in
      ap (λ (b : Bool). cond b (Some y) (find f xs)) both.0 ∙ not_found xs both.1

  -- there is a first that passes, or none
  pub found_or_none : (xs : List A) → ((x : A) × (find f xs ≡ Some x)) ⊎ (list_any f xs ≡ false)
  found_or_none [] = inr refl
  found_or_none (y ∷ xs) = elim (cases_Bool (f y)) [
    | inl e ↦ inl (y, ap (λ (b : Bool). cond b (Some y) (find f xs)) e)
    | inr e ↦ elim (found_or_none xs) [
      | inl r ↦ inl (r.0, ap (λ (b : Bool). cond b (Some y) (find f xs)) e ∙ r.1)
      | inr r ↦ inr (or_from (f y) (list_any f xs) e r)
    ]
  ]

-- a list is what is before a member, the member, and the rest
pub parted : {A : Type 0} (xs : List A) (i : ℕ) (x : A) → i < length xs → x ≡ get_or xs i x → xs ≡ take i xs ++ x ∷ drop (i + 1) xs
parted {A} xs i x lt is =
    let e : drop i xs ≡ x ∷ drop (i + 1) xs = rw (add-one, drop-cons xs i x lt) (ap (λ (y : A). y ∷ drop (suc i) xs) (sym is)) in
    sym (take-append-drop i xs) ∙ ap (λ (l : List A). take i xs ++ l) e

module _ {A : Type 0} (f : A → Bool) where
  -- none so far, and not this one
  pub none_more : (xs : List A) (i : ℕ) (x : A) → i < length xs → x ≡ get_or xs i x → list_any f (take i xs) ≡ false → f x ≡ false → list_any f (take (i + 1) xs) ≡ false
  none_more xs i x lt is none off =
      list_any_more f xs i x lt ∙ (ap (λ (b : Bool). b || f (get_or xs i x)) none ∙ subst (λ (y : A). f y ≡ false) is off)

  -- none in as many as there are
  pub none_at_all : (xs : List A) (i : ℕ) → length xs ≤ i → list_any f (take i xs) ≡ false → list_any f xs ≡ false
  none_at_all xs i le none = subst (λ (l : List A). list_any f l ≡ false) (take_all i xs le) none

  -- this one passes
  pub any_at : (xs : List A) (i : ℕ) (x : A) → i < length xs → x ≡ get_or xs i x → list_any f (take i xs) ≡ false → f x ≡ true → list_any f xs ≡ true
  any_at xs i x lt is none on =
      ap (list_any f) (parted xs i x lt is) ∙ (list_any-append f (take i xs) (x ∷ drop (i + 1) xs)
      ∙ (ap (λ (b : Bool). b || (f x || list_any f (drop (i + 1) xs))) none
      ∙ ap (λ (b : Bool). b || list_any f (drop (i + 1) xs)) on))

  -- none so far, and then this one
  pub find_at : (xs : List A) (i : ℕ) (x : A) → i < length xs → x ≡ get_or xs i x → list_any f (take i xs) ≡ false → f x ≡ true → find f xs ≡ Some x
  find_at xs i x lt is none on =
      ap (find f) (parted xs i x lt is) ∙ (find-append f (take i xs) (x ∷ drop (i + 1) xs)
      ∙ (ap (λ (o : Option A). option_or o (find f (x ∷ drop (i + 1) xs))) (not_found f (take i xs) none)
      ∙ ap (λ (b : Bool). cond b (Some x) (find f (drop (i + 1) xs))) on))

  -- where all that pass are of a kind, a look at that kind is enough
  module _ (g : A → Bool) (h : (x : A) → f x ≡ true → g x ≡ true) where
    pub find_of_kind : (xs : List A) → find f (filter g xs) ≡ find f xs
    find_of_kind [] = refl
    find_of_kind (x ∷ xs) = elim (cases_Bool (g x)) [
      | inl y ↦ ap (λ (b : Bool). find f (cond b (x ∷ filter g xs) (filter g xs))) y ∙ ap (cond (f x) (Some x)) (find_of_kind xs)
      | inr n ↦ elim (cases_Bool (f x)) [
        | inl e ↦ absurd (let r : true ≡ false = sym (h x e) ∙ n in cc r)
        | inr e ↦ ap (λ (b : Bool). find f (cond b (x ∷ filter g xs) (filter g xs))) n ∙ (find_of_kind xs ∙ sym (ap (λ (b : Bool). cond b (Some x) (find f xs)) e))
      ]
    ]

    pub any_of_kind : (xs : List A) → list_any f (filter g xs) ≡ list_any f xs
    any_of_kind [] = refl
    any_of_kind (x ∷ xs) = elim (cases_Bool (g x)) [
      | inl y ↦ ap (λ (b : Bool). list_any f (cond b (x ∷ filter g xs) (filter g xs))) y ∙ ap (λ (b : Bool). f x || b) (any_of_kind xs)
      | inr n ↦ elim (cases_Bool (f x)) [
        | inl e ↦ absurd (let r : true ≡ false = sym (h x e) ∙ n in cc r)
        | inr e ↦ ap (λ (b : Bool). list_any f (cond b (x ∷ filter g xs) (filter g xs))) n ∙ (any_of_kind xs ∙ sym (ap (λ (b : Bool). b || list_any f xs) e))
      ]
    ]

module _ {A B : Type 0} (f : B → Bool) (g : A → B) where
  pub find_map : (xs : List A) → find f (map g xs) ≡ option_map g (find (λ x. f (g x)) xs)
  find_map [] = refl
  find_map (x ∷ xs) = elim (cases_Bool (f (g x))) [
    | inl e ↦ ap (λ (b : Bool). cond b (Some (g x)) (find f (map g xs))) e ∙ sym (ap (λ (b : Bool). option_map g (cond b (Some x) (find (λ x. f (g x)) xs))) e)
    | inr e ↦ ap (λ (b : Bool). cond b (Some (g x)) (find f (map g xs))) e ∙ (find_map xs ∙ sym (ap (λ (b : Bool). option_map g (cond b (Some x) (find (λ x. f (g x)) xs))) e))
  ]

  pub any_map : (xs : List A) → list_any f (map g xs) ≡ list_any (λ x. f (g x)) xs
  any_map [] = refl
  any_map (x ∷ xs) = ap (λ (b : Bool). f (g x) || b) (any_map xs)
