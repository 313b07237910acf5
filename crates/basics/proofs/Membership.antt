-- What appending, mapping and filtering do to membership, and membership by place.
use Rattle.std.specs.List.{flat_map}
use Rattle.std.specs.Prelude.{map, filter, slice_get, Contains}
use Rattle.std.proofs.Common.{◌≡◌, ◌⊎◌, ◌<◌, ◌∙◌, ℕ, zero, suc, Bool, true, false, cond, Some, List, [], ◌∷◌, ◌++◌, get_or, length, inl, inr, ap, arith, refl, subst, sym}
use Rattle.std.proofs.lemmas.Option.{get_or_from_slice_get, slice_get_within}
use Rattle.basics.specs.Members.{AreDistinct, Has}

pub has-append_left : {A : Type 0} (xs ys : List A) (x : A) → Has xs x → Has (xs ++ ys) x
has-append_left [] ys x h = absurd h
has-append_left (y ∷ xs) ys x (inl e) = inl e
has-append_left (y ∷ xs) ys x (inr h) = inr (has-append_left xs ys x h)

pub has-append_right : {A : Type 0} (xs ys : List A) (x : A) → Has ys x → Has (xs ++ ys) x
has-append_right [] ys x h = h
has-append_right (y ∷ xs) ys x h = inr (has-append_right xs ys x h)

pub has-append_cases : {A : Type 0} (xs ys : List A) (x : A) → Has (xs ++ ys) x → Has xs x ⊎ Has ys x
has-append_cases [] ys x h = inr h
has-append_cases (y ∷ xs) ys x (inl e) = inl (inl e)
has-append_cases (y ∷ xs) ys x (inr h) = elim (has-append_cases xs ys x h) [ inl l ↦ inl (inr l) | inr r ↦ inr r ]

pub has-map : {A B : Type 0} (f : A → B) (xs : List A) (x : A) → Has xs x → Has (map f xs) (f x)
has-map f [] x h = absurd h
has-map f (y ∷ xs) x (inl e) = inl (ap f e)
has-map f (y ∷ xs) x (inr h) = inr (has-map f xs x h)

pub has-map_back : {A B : Type 0} (f : A → B) (xs : List A) (y : B) → Has (map f xs) y → (x : A) × Has xs x × (f x ≡ y)
has-map_back f [] y h = absurd h
has-map_back f (x ∷ xs) y (inl e) = (x, inl refl, e)
has-map_back f (x ∷ xs) y (inr h) = let k = has-map_back f xs y h in (k.0, inr k.1, k.2)

-- the pieces of a `flat_map`: what one of them has, and back
pub has-flat_map : {A B : Type 0} (f : A → List B) (xs : List A) (x : A) (y : B) → Has xs x → Has (f x) y → Has (flat_map f xs) y
has-flat_map f [] x y h k = absurd h
has-flat_map f (z ∷ xs) x y (inl e) k = has-append_left (f z) (flat_map f xs) y (subst (λ w. Has (f w) y) (sym e) k)
has-flat_map f (z ∷ xs) x y (inr h) k = has-append_right (f z) (flat_map f xs) y (has-flat_map f xs x y h k)

pub has-flat_map_back : {A B : Type 0} (f : A → List B) (xs : List A) (y : B) → Has (flat_map f xs) y → (x : A) × Has xs x × Has (f x) y
has-flat_map_back f [] y h = absurd h
has-flat_map_back f (x ∷ xs) y h = elim (has-append_cases (f x) (flat_map f xs) y h) [
  | inl here ↦ (x, inl refl, here)
  | inr later ↦ (let r = has-flat_map_back f xs y later in (r.0, inr r.1, r.2))
]

module _ {A : Type 0} (test : A → Bool) where
  filter_cases : (b : Bool) (y : A) (ys : List A) (x : A) → Has (cond b (y ∷ ys) ys) x → ((b ≡ true) × (y ≡ x)) ⊎ Has ys x
  filter_cases true y ys x (inl e) = inl (refl, e)
  filter_cases true y ys x (inr h) = inr h
  filter_cases false y ys x h = inr h

  filter_first : (b : Bool) (y : A) (ys : List A) → b ≡ true → Has (cond b (y ∷ ys) ys) y
  filter_first true y ys e = inl refl
  filter_first false y ys e = absurd (cc e)

  filter_later : (b : Bool) (y : A) (ys : List A) (x : A) → Has ys x → Has (cond b (y ∷ ys) ys) x
  filter_later true y ys x h = inr h
  filter_later false y ys x h = h

  -- what a filter keeps is a member that passes
  pub has-filter_back : (xs : List A) (x : A) → Has (filter test xs) x → Has xs x × (test x ≡ true)
  has-filter_back [] x h = absurd h
  has-filter_back (y ∷ ys) x h = elim (filter_cases (test y) y (filter test ys) x h) [
    | inl e ↦ (inl e.1, ap test (sym e.1) ∙ e.0)
    | inr later ↦ (let k = has-filter_back ys x later in (inr k.0, k.1))
  ]

  -- and each member that passes is kept
  pub has-filter : (xs : List A) (x : A) → Has xs x → test x ≡ true → Has (filter test xs) x
  has-filter [] x h e = absurd h
  has-filter (y ∷ ys) x (inl same) e = subst (λ (z : A). Has (filter test (y ∷ ys)) z) same (filter_first (test y) y (filter test ys) (ap test same ∙ e))
  has-filter (y ∷ ys) x (inr h) e = filter_later (test y) y (filter test ys) x (has-filter ys x h e)

pub has-from_contains : {A : Type 0} (xs : List A) (x : A) → Contains xs x → Has xs x
has-from_contains {A = A} xs x c = go xs c.0 c.1 c.2
  where
    go : (ys : List A) (k : ℕ) → k < length ys → get_or ys k x ≡ x → Has ys x
    go [] k lt e = absurd (omega arith)
    go (y ∷ ys) zero lt e = inl e
    go (y ∷ ys) (suc k) lt e = inr (go ys k (omega arith) e)

pub contains-from_has : {A : Type 0} (xs : List A) (x : A) → Has xs x → Contains xs x
contains-from_has [] x has = absurd has
contains-from_has (y ∷ ys) x (inl e) = (0, omega arith, e)
contains-from_has (y ∷ ys) x (inr h) = let c = contains-from_has ys x h in (suc c.0, omega (arith, c.1), c.2)

-- what stands at a place is a member
pub has-at : {A : Type 0} (xs : List A) (i : ℕ) (x : A) → i < length xs → x ≡ get_or xs i x → Has xs x
has-at xs i x within is = has-from_contains xs x (i, within, sym is)

pub has-slice_get : {A : Type 0} (xs : List A) (i : ℕ) (x : A) → slice_get xs i ≡ Some x → Has xs x
has-slice_get xs i x e = has-from_contains xs x (i, slice_get_within xs i x e, get_or_from_slice_get xs i x x e)

-- lists that are distinct together have no member in common
pub distinct-apart : {A : Type 0} (xs ys : List A) (x : A) → AreDistinct (xs ++ ys) → Has xs x → Has ys x → ⊥
distinct-apart [] ys x distinct has mine = absurd has
distinct-apart {A = A} (y ∷ xs) ys x distinct (inl e) mine = distinct.0 (has-append_right xs ys y (subst (λ (z : A). Has ys z) (sym e) mine))
distinct-apart (y ∷ xs) ys x distinct (inr has) mine = distinct-apart xs ys x distinct.1 has mine

-- and distinct lists with no common member are distinct together
pub distinct-append : {A : Type 0} (xs ys : List A) → AreDistinct xs → AreDistinct ys → ((x : A) → Has xs x → Has ys x → ⊥) → AreDistinct (xs ++ ys)
distinct-append [] ys a b apart = b
distinct-append (x ∷ xs) ys a b apart = (
  (λ has. elim (has-append_cases xs ys x has) [ inl h ↦ a.0 h | inr h ↦ apart x (inl refl) h ]),
  distinct-append xs ys a.1 b (λ y h k. apart y (inr h) k),
)

pub distinct-push : {A : Type 0} (xs : List A) (x : A) → AreDistinct xs → ¬ Has xs x → AreDistinct (xs ++ x ∷ [])
distinct-push {A = A} xs x d new = distinct-append xs (x ∷ []) d ((λ h. h), tt)
    (λ y has (one : (x ≡ y) ⊎ ⊥). elim one [ inl e ↦ new (subst (λ (z : A). Has xs z) (sym e) has) | inr none ↦ none ])
