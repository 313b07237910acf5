-- The lines of a cause.
use Rattle.std.proofs.Common.{◌≡◌, ◌∙◌, ◌++◌, ◌&&◌, ◌||◌, ◌⊎◌, ℕ, Bool, true, false, cond, not, List, [], ◌∷◌, nat_eq, inl, inr, refl, sym, ap, subst}
use Rattle.std.specs.List.{list_all, list_any}
use Rattle.std.proofs.lemmas.Bool.{and_parts, eqb-true, or_cases}
use Rattle.basics.specs.Members.{Has}
use Rattle.basics.proofs.Membership.{has-append_left, has-append_right}
use Rattle.choice_search.specs.Visit.{joined, with_line}

-- a line that is found is there
found_has : (l : ℕ) (ks : List ℕ) → list_any (λ k. nat_eq k l) ks ≡ true → Has ks l
found_has l [] e = absurd (cc e)
found_has l (k ∷ ks) e = elim (or_cases (nat_eq k l) (list_any (λ k. nat_eq k l) ks) e) [
  | inl here ↦ inl (eqb-true k l here)
  | inr later ↦ inr (found_has l ks later)
]

-- what is so of all is so of each
pub all_has : (test : ℕ → Bool) (ls : List ℕ) (l : ℕ) → list_all test ls ≡ true → Has ls l → test l ≡ true
all_has test [] l e h = absurd h
all_has test (k ∷ ks) l e (inl same) = ap test (sym same) ∙ (and_parts (test k) (list_all test ks) e).0
all_has test (k ∷ ks) l e (inr h) = all_has test ks l (and_parts (test k) (list_all test ks) e).1 h

if_old : (b : Bool) (cause : List ℕ) (k l : ℕ) → Has cause l → Has (cond b (cause ++ k ∷ []) cause) l
if_old true cause k l h = has-append_left cause (k ∷ []) l h
if_old false cause k l h = h

if_new : (a b : Bool) (cause : List ℕ) (k : ℕ) → a ≡ true → (b ≡ true → Has cause k) → Has (cond (a && not b) (cause ++ k ∷ []) cause) k
if_new true true cause k e there = there refl
if_new true false cause k e there = has-append_right cause (k ∷ []) k (inl refl)
if_new false b cause k e there = absurd (cc e)

module _ (known : ℕ → Bool) where
  -- a cause keeps its lines
  pub joined_old : (cause ls : List ℕ) (l : ℕ) → Has cause l → Has (joined known cause ls) l
  joined_old cause [] l h = h
  joined_old cause (k ∷ ks) l h =
      joined_old (with_line known cause k) ks l (if_old (known k && not (list_any (λ j. nat_eq j k) cause)) cause k l h)

  -- and what is known of others comes to it
  pub joined_new : (cause ls : List ℕ) (l : ℕ) → Has ls l → known l ≡ true → Has (joined known cause ls) l
  joined_new cause [] l h e = absurd h
  joined_new cause (k ∷ ks) l (inl same) e =
      joined_old (with_line known cause k) ks l
      (subst (λ (x : ℕ). Has (with_line known cause k) x) same
      (if_new (known k) (list_any (λ j. nat_eq j k) cause) cause k (ap known same ∙ e) (found_has k cause)))
  joined_new cause (k ∷ ks) l (inr h) e = joined_new (with_line known cause k) ks l h e
