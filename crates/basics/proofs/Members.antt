-- Members of lists that are filtered, tested or joined.
use Rattle.std.proofs.Common.{◌≡◌, ◌⊎◌, ◌||◌, ℕ, Bool, true, false, cond, List, [], ◌∷◌, ◌++◌, filter, map, inl, inr, refl, sym, ap, subst, ◌∙◌}
use Rattle.std.specs.List.{list_any}
use Rattle.std.proofs.lemmas.Bool.{cases_eq, or_left, or_right}
use Rattle.basics.specs.Members.{AreDistinct, Has}
use Rattle.basics.proofs.Membership.{has-append_cases, has-filter_back, has-map, has-map_back}

-- the number is a member, or not
pub has_or_not : (xs : List ℕ) (n : ℕ) → Has xs n ⊎ (¬ Has xs n)
has_or_not [] n = inr (λ h. h)
has_or_not (x ∷ xs) n = elim (cases_eq x n) [
  | inl e ↦ inl (inl e)
  | inr other ↦ elim (has_or_not xs n) [
    | inl h ↦ inl (inr h)
    | inr h ↦ inr (λ (has : (x ≡ n) ⊎ Has xs n). elim has [ inl e ↦ other e | inr later ↦ h later ])
  ]
]

module _ {A : Type 0} (f : A → Bool) where
  any_step : (b : Bool) (y : A) (ys : List A) → f y ≡ b → (b || list_any f ys) ≡ true → (f y ≡ true) ⊎ (list_any f ys ≡ true)
  any_step true y ys e h = inl e
  any_step false y ys e h = inr h

  -- a test that passes of some is passed by a member
  pub some_passes : (xs : List A) → list_any f xs ≡ true → (x : A) × Has xs x × (f x ≡ true)
  some_passes [] h = absurd (cc h)
  some_passes (y ∷ ys) h = elim (any_step (f y) y ys refl h) [
    | inl e ↦ (y, inl refl, e)
    | inr later ↦ (let k = some_passes ys later in (k.0, inr k.1, k.2))
  ]

  pub passes_some : (xs : List A) (x : A) → Has xs x → f x ≡ true → list_any f xs ≡ true
  passes_some [] x h e = absurd h
  passes_some (y ∷ ys) x (inl same) e = or_left (f y) (list_any f ys) (ap f same ∙ e)
  passes_some (y ∷ ys) x (inr h) e = or_right (f y) (list_any f ys) (passes_some ys x h e)

module _ {A B : Type 0} (key : A → B) where
  first_differs : (f : A → Bool) (x : A) (xs : List A) → ¬ Has (map key xs) (key x) → ¬ Has (map key (filter f xs)) (key x)
  first_differs f x xs none h =
      let k = has-map_back key (filter f xs) (key x) h in
      none (subst (λ (z : B). Has (map key xs) z) k.2 (has-map key xs k.0 (has-filter_back f xs k.0 k.1).0))

  distinct_step : (b : Bool) (x : A) (ys : List A) → ¬ Has (map key ys) (key x) → AreDistinct (map key ys) → AreDistinct (map key (cond b (x ∷ ys) ys))
  distinct_step true x ys none d = (none, d)
  distinct_step false x ys none d = d

  -- keys that differ go on differing among those that pass a test
  pub distinct_filtered : (f : A → Bool) (xs : List A) → AreDistinct (map key xs) → AreDistinct (map key (filter f xs))
  distinct_filtered f [] d = tt
  distinct_filtered f (x ∷ xs) d = distinct_step (f x) x (filter f xs) (first_differs f x xs d.0) (distinct_filtered f xs d.1)

  -- two lists whose keys differ, each in itself and from one another
  pub distinct_joined : (xs ys : List A) → AreDistinct (map key xs) → AreDistinct (map key ys) → ((x y : A) → Has xs x → Has ys y → ¬ (key x ≡ key y)) → AreDistinct (map key (xs ++ ys))
  distinct_joined [] ys d e apart = e
  distinct_joined (x ∷ xs) ys d e apart = (
    (λ h. let k = has-map_back key (xs ++ ys) (key x) h in
        elim (has-append_cases xs ys k.0 k.1) [
          | inl own ↦ d.0 (subst (λ (z : B). Has (map key xs) z) k.2 (has-map key xs k.0 own))
          | inr other ↦ apart x k.0 (inl refl) other (sym k.2)
        ]),
    distinct_joined xs ys d.1 e (λ a b ha hb. apart a b (inr ha) hb),
  )
