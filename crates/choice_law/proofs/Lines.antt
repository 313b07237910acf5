-- The lines of a universe, what stands on them, and which are decided.
use Rattle.std.proofs.Common.{◌≡◌, ◌⊎◌, ◌<◌, ◌≤◌, ◌+◌, ℕ, zero, suc, Bool, true, false, cond, ◌∷◌, Option, Some, None, IsSome, nat_eq, unwrap_or, inl, inr, refl, sym, ap, subst, arith, ◌∙◌}
use Rattle.std.proofs.lemmas.Bool.{cases_Bool, cases_eq, eq-eqb, eqb-true}
use Rattle.basics.specs.Members.{Has}
use Rattle.basics.proofs.Membership.{has-append_cases, has-append_left, has-append_right}
use Rattle.pkg_state.specs.Package.{Package}
use Rattle.choice_law.specs.Universe.{Filling, IsValue, Offer, Stands, Universe, Value, as_is, as_list, lines, offer_at, package_of, packages, packages_below, standing}
use Rattle.choice_law.specs.Tree.{Choice, decided, filling}
use Rattle.choice_law.specs.Reasons.{Extends}

-- a number that passes the test, below n, or none
pub search_below : (test : ℕ → Bool) (n : ℕ) → ((l : ℕ) × (l < n) × (test l ≡ true)) ⊎ ((l : ℕ) → l < n → test l ≡ false)
search_below test zero = inr (λ l less. absurd (omega (arith, less)))
search_below test (suc n) = elim (search_below test n) [
  | inl found ↦ inl (found.0, (let less = found.1 in omega (arith, less)), found.2)
  | inr none ↦ elim (cases_Bool (test n)) [
    | inl e ↦ inl (n, omega arith, e)
    | inr e ↦ inr (λ l less. elim (cases_eq l n) [
      | inl same ↦ ap test same ∙ e
      | inr other ↦ none l (omega (arith, less, other))
    ])
  ]
]

-- a package that stands and passes the test
abbrev pub hits : Option Package → (Package → Bool) → Bool
hits None test = false
hits (Some p) test = test p

pub hit_is : (x : Option Package) (test : Package → Bool) → hits x test ≡ true → (p : Package) × (x ≡ Some p) × (test p ≡ true)
hit_is None test e = absurd (cc e)
hit_is (Some p) test e = (p, refl, e)

pub no_hit : (x : Option Package) (test : Package → Bool) (p : Package) → hits x test ≡ false → x ≡ Some p → test p ≡ false
no_hit x test p e is = ap (λ (y : Option Package). hits y test) (sym is) ∙ e

pub listed : (x : Option Package) (p : Package) → x ≡ Some p → Has (as_list x) p
listed x p e = subst (λ (y : Option Package). Has (as_list y) p) (sym e) (inl refl)

pub of_list : (x : Option Package) (p : Package) → Has (as_list x) p → x ≡ Some p
of_list None p h = absurd h
of_list (Some q) p (inl e) = ap (λ (r : Package). Some r) e
of_list (Some q) p (inr h) = absurd h

module _ (u : Universe) (f : Filling) where
  has_below : (n l : ℕ) (p : Package) → l < n → package_of (offer_at u l) (f l) ≡ Some p → Has (packages_below u f n) p
  has_below zero l p less is = absurd (omega (arith, less))
  has_below (suc n) l p less is = elim (cases_eq l n) [
    | inl same ↦ has-append_right (packages_below u f n) (as_list (package_of (offer_at u n) (f n))) p
        (listed (package_of (offer_at u n) (f n)) p (ap (λ (k : ℕ). package_of (offer_at u k) (f k)) (sym same) ∙ is))
    | inr other ↦ has-append_left (packages_below u f n) (as_list (package_of (offer_at u n) (f n))) p (has_below n l p (omega (arith, less, other)) is)
  ]

  below_has : (n : ℕ) (p : Package) → Has (packages_below u f n) p → (l : ℕ) × (l < n) × (package_of (offer_at u l) (f l) ≡ Some p)
  below_has zero p h = absurd h
  below_has (suc n) p h = elim (has-append_cases (packages_below u f n) (as_list (package_of (offer_at u n) (f n))) p h) [
    | inl before ↦ (let k = below_has n p before in (k.0, (let less = k.1 in omega (arith, less)), k.2))
    | inr here ↦ (n, omega arith, of_list (package_of (offer_at u n) (f n)) p here)
  ]

  -- the packages are just those that stand on some line
  pub stands_listed : (l : ℕ) (p : Package) → Stands u f l p → Has (packages u f) p
  stands_listed l p s = has_below (lines u) l p s.there s.is

  pub listed_stands : (p : Package) → Has (packages u f) p → (l : ℕ) × Stands u f l p
  listed_stands p h = let k = below_has (lines u) p h in (k.0, record { there = k.1; is = k.2 })

pub decided_or_not : (c : Choice) (l : ℕ) → (decided c l ≡ None) ⊎ ((v : Value) × (decided c l ≡ Some v))
decided_or_not c l = by_case (decided c l) where
  by_case : (x : Option Value) → (x ≡ None) ⊎ ((v : Value) × (x ≡ Some v))
  by_case None = inl refl
  by_case (Some v) = inr (v, refl)

-- a decided line has what is decided, another one is as it is
pub filling_decided : (u : Universe) (c : Choice) (l : ℕ) (v : Value) → decided c l ≡ Some v → filling u c l ≡ v
filling_decided u c l v e = ap (λ (x : Option Value). unwrap_or x (as_is u l)) e

pub filling_free : (u : Universe) (c : Choice) (l : ℕ) → decided c l ≡ None → filling u c l ≡ as_is u l
filling_free u c l e = ap (λ (x : Option Value). unwrap_or x (as_is u l)) e

pub standing_is_value : (o : Offer) → IsValue o (standing o.installed)
standing_is_value o = by_case o.installed refl where
  by_case : (x : Option Package) → o.installed ≡ x → IsValue o (standing x)
  by_case None e = tt
  by_case (Some p) e = subst (λ (x : Option Package). IsSome x) (sym e) refl

-- one more decision
decided_step : (m l : ℕ) (v : Value) (c : Choice) (b : Bool) → nat_eq m l ≡ b → decided ((m, v) ∷ c) l ≡ cond b (Some v) (decided c l)
decided_step m l v c b e = ap (λ (x : Bool). cond x (Some v) (decided c l)) e

pub decided_here : (l : ℕ) (v : Value) (c : Choice) → decided ((l, v) ∷ c) l ≡ Some v
decided_here l v c = decided_step l l v c true (eq-eqb l l refl)

pub decided_there : (m l : ℕ) (v : Value) (c : Choice) → ¬ (m ≡ l) → decided ((m, v) ∷ c) l ≡ decided c l
decided_there m l v c other = elim (cases_Bool (nat_eq m l)) [
  | inl e ↦ absurd (other (eqb-true m l e))
  | inr e ↦ decided_step m l v c false e
]

-- how many of the first lines aren't decided
abbrev pub is_free : Option Value → ℕ
is_free None = 1
is_free (Some v) = 0

abbrev pub free_below : Choice → ℕ → ℕ
free_below c zero = 0
free_below c (suc n) = free_below c n + is_free (decided c n)

less_free : (x y : Option Value) → ((v : Value) → x ≡ Some v → y ≡ Some v) → is_free y ≤ is_free x
less_free x (Some v) h = omega arith
less_free None None h = omega arith
less_free (Some v) None h = let bad : ◌≡◌ {A = Option Value} None (Some v) = h v refl in absurd (cc bad)

no_more_free : (c e : Choice) (n : ℕ) → Extends c e → free_below e n ≤ free_below c n
no_more_free c e zero alike = omega arith
no_more_free c e (suc n) alike =
    let before = no_more_free c e n alike in
    let here = less_free (decided c n) (decided e n) (alike n) in
    omega (arith, before, here)

-- fewer are free once one more is decided
pub fewer_free : (c e : Choice) (n k : ℕ) (v : Value) → Extends c e → k < n → decided c k ≡ None → decided e k ≡ Some v → free_below e n < free_below c n
fewer_free c e zero k v alike less was is = absurd (omega (arith, less))
fewer_free c e (suc n) k v alike less was is = elim (cases_eq k n) [
  | inl same ↦ (
      let before = no_more_free c e n alike in
      let old : is_free (decided c n) ≡ 1 = ap (λ (j : ℕ). is_free (decided c j)) (sym same) ∙ ap is_free was in
      let new : is_free (decided e n) ≡ 0 = ap (λ (j : ℕ). is_free (decided e j)) (sym same) ∙ ap is_free is in
      omega (arith, before, old, new))
  | inr other ↦ (
      let before = fewer_free c e n k v alike (omega (arith, less, other)) was is in
      let here = less_free (decided c n) (decided e n) (alike n) in
      omega (arith, before, here))
]
