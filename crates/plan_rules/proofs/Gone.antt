-- Changes that each reach the last one before them on their line are in order, for groups wait for
-- earlier ones alone.
use Rattle.std.proofs.Common.{◌≡◌, ◌⊎◌, ◌∙◌, ℕ, Bool, cond, List, [], ◌∷◌, ◌++◌, Option, Some, bytes_eq, inl, inr, sym, ap, subst}
use Rattle.std.proofs.lemmas.Bool.{cases_Bool}
use Rattle.std.proofs.lemmas.Slice.Eq.{bytes_eq-Decides}
use Rattle.basics.specs.Members.{Has}
use Rattle.basics.proofs.Membership.{has-append_cases, has-append_left, has-append_right}
use Rattle.plan_law.specs.Plans.{Group, Reaches, before, itself}
use Rattle.plan_rules.proofs.Ordered.{Changed}

-- of two of these changes of one line the group of one reaches that of the other
abbrev pub AreOrdered : List Group → List Changed → Type 0
AreOrdered plan changes =
    (g h : ℕ) (line : List ℕ) → Has changes (line, g) → Has changes (line, h) →
    Reaches plan h g ⊎ Reaches plan g h

pub reaches_on : (plan : List Group) (a b c : ℕ) → Reaches plan a b → Reaches plan b c → Reaches plan a c
reaches_on plan a b c r itself = r
reaches_on plan a b c r (before k i w s) = before k i w (reaches_on plan a b k r s)

-- what is known of the changes that were gone through, where `last` has the last group of each line
pub record AreGone (plan : List Group) (seen : List Changed) (last : List ℕ → Option ℕ) : Type 0 where
  pub ordered : AreOrdered plan seen
  pub reached : (line : List ℕ) (g : ℕ) → Has seen (line, g) → (k : ℕ) × (last line ≡ Some k) × Reaches plan k g
  pub noted : (line : List ℕ) (k : ℕ) → last line ≡ Some k → Has seen (line, k)

some_is : (a b : ℕ) → Some a ≡ Some b → a ≡ b
some_is a b e = cc e

module _ (plan : List Group) (seen : List Changed) (last now : List ℕ → Option ℕ) (l : List ℕ) (g : ℕ) (gone : AreGone plan seen last)
    (reaches : (k : ℕ) → last l ≡ Some k → Reaches plan g k)
    (changed : (line : List ℕ) → now line ≡ cond (bytes_eq l line) (Some g) (last line)) where
  here : (line : List ℕ) → l ≡ line → now line ≡ Some g
  here line e = changed line ∙ ap (λ (b : Bool). cond b (Some g) (last line)) ((bytes_eq-Decides l line).1 e)

  reached_here : (line : List ℕ) (h : ℕ) → Has seen (line, h) → l ≡ line → Reaches plan g h
  reached_here line h has e = let k = gone.reached line h has in reaches_on plan g k.0 h (reaches k.0 (ap last e ∙ k.1)) k.2

  new : (line : List ℕ) (h : ℕ) → Has {A = Changed} ((l, g) ∷ []) (line, h) → (l ≡ line) × (g ≡ h)
  new line h (inl e) = (ap (λ (c : Changed). c.0) e, ap (λ (c : Changed). c.1) e)
  new line h (inr none) = absurd none

  to : (line : List ℕ) (h : ℕ) → Has (seen ++ (l, g) ∷ []) (line, h) → Has seen (line, h) ⊎ ((l ≡ line) × (g ≡ h))
  to line h has = elim (has-append_cases seen ((l, g) ∷ []) (line, h) has) [ inl old ↦ inl old | inr one ↦ inr (new line h one) ]

  ordered : AreOrdered plan (seen ++ (l, g) ∷ [])
  ordered a b line ha hb = elim (to line a ha) [
    | inl old ↦ elim (to line b hb) [
      | inl other ↦ gone.ordered a b line old other
      | inr one ↦ inl (subst (λ (n : ℕ). Reaches plan n a) one.1 (reached_here line a old one.0))
    ]
    | inr one ↦ elim (to line b hb) [
      | inl other ↦ inr (subst (λ (n : ℕ). Reaches plan n b) one.1 (reached_here line b other one.0))
      | inr two ↦ inl (subst (λ (n : ℕ). Reaches plan b n) (sym two.1 ∙ one.1) itself)
    ]
  ]

  reached : (line : List ℕ) (h : ℕ) → Has (seen ++ (l, g) ∷ []) (line, h) → (k : ℕ) × (now line ≡ Some k) × Reaches plan k h
  reached line h has = elim (to line h has) [
    | inr one ↦ (g, here line one.0, subst (λ (n : ℕ). Reaches plan g n) one.1 itself)
    | inl old ↦ elim (cases_Bool (bytes_eq l line)) [
      | inl y ↦ (let e = (bytes_eq-Decides l line).0 y in (g, here line e, reached_here line h old e))
      | inr n ↦ (let k = gone.reached line h old in (k.0, changed line ∙ (ap (λ (b : Bool). cond b (Some g) (last line)) n ∙ k.1), k.2))
    ]
  ]

  noted : (line : List ℕ) (k : ℕ) → now line ≡ Some k → Has (seen ++ (l, g) ∷ []) (line, k)
  noted line k e = elim (cases_Bool (bytes_eq l line)) [
    | inl y ↦ (let same = (bytes_eq-Decides l line).0 y in let n = some_is g k (sym (here line same) ∙ e) in
        has-append_right seen ((l, g) ∷ []) (line, k) (inl (λ i. (same i, n i))))
    | inr n ↦ has-append_left seen ((l, g) ∷ []) (line, k) (gone.noted line k (sym (changed line ∙ ap (λ (b : Bool). cond b (Some g) (last line)) n) ∙ e))
  ]

  pub gone_more : AreGone plan (seen ++ (l, g) ∷ []) now
  gone_more = record { ordered = ordered; reached = reached; noted = noted }
