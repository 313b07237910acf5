-- What an option makes of a choice: one line more is decided, and what was decided is decided alike.
use Rattle.std.proofs.Common.{◌≡◌, ◌⊎◌, ◌<◌, ℕ, ◌∷◌, Option, None, Some, inl, inr, refl, sym, ap, subst, ◌∙◌}
use Rattle.std.proofs.lemmas.Bool.{cases_eq}
use Rattle.choice_law.specs.Universe.{Filling, IsValue, Universe, Value, as_is, lines, offer_at}
use Rattle.choice_law.specs.Tree.{Choice, IsOption, MayBe, Obligation, absence, conflict, decided, filling, held, held_by, required, tree, wanted}
use Rattle.choice_law.specs.Laws.{Allows, DecidesValues}
use Rattle.choice_law.specs.Reasons.{AgreesNew, Extends}
use Rattle.choice_law.proofs.Lines.{decided_here, decided_or_not, decided_there, fewer_free, filling_decided, free_below, standing_is_value}

-- one more decision, beside which another line may be held as it is
pub record IsStep (u : Universe) (c e : Choice) : Type 0 where
  pub line : ℕ
  pub value : Value
  pub may : MayBe u c line value
  pub before : Choice
  pub is_before : (before ≡ c) ⊎ ((l : ℕ) × (before ≡ held u c l))
  pub is : e ≡ (line, value) ∷ before

module _ (u : Universe) (c : Choice) where
  alone : (e : Choice) (m : ℕ) (v : Value) → MayBe u c m v → e ≡ (m, v) ∷ c → IsStep u c e
  alone e m v may is = record { line = m; value = v; may = may; before = c; is_before = inl refl; is = is }

  pub option_step : (o : Obligation) (e : Choice) → IsOption u c o e → IsStep u c e
  option_step (wanted a) e o = alone e o.0 o.1 o.2 o.4
  option_step (required l) e o = alone e l o.0 o.1.may o.2
  option_step (conflict l m) e (inl o) = alone e l o.0 o.1.may o.2
  option_step (conflict l m) e (inr o) = record { line = m; value = o.0; may = o.1; before = held u c l; is_before = inr (l, refl); is = o.3 }
  option_step (tree l class) e (inl o) = alone e o.2 o.3 o.7 o.9
  option_step (tree l class) e (inr o) = alone e l o.0 o.1.may o.2
  option_step (absence l) e o = alone e o.0 o.1 o.4 o.9

  -- what holds of the choice, of it with a line held, and with one more decision, holds of an option
  module _ (P : Choice → Type 0) (own : P c) (holding : (l : ℕ) → P (held u c l)) where
    of_before : (b : Choice) → (b ≡ c) ⊎ ((l : ℕ) × (b ≡ held u c l)) → P b
    of_before b (inl e) = subst (λ (x : Choice). P x) (sym e) own
    of_before b (inr e) = subst (λ (x : Choice). P x) (sym e.1) (holding e.0)

  -- what holds of the choice, and with the line decided as it is where it was free, holds with it held
  of_held : (P : Choice → Type 0) (l : ℕ) → P c → (decided c l ≡ None → P ((l, as_is u l) ∷ c)) → P (held u c l)
  of_held P l own more = elim (decided_or_not c l) [
    | inl none ↦ subst (λ (x : Option Value). P (held_by x u c l)) (sym none) (more none)
    | inr some ↦ subst (λ (x : Option Value). P (held_by x u c l)) (sym some.1) own
  ]

  adding_extends : (e : Choice) (m : ℕ) (v : Value) → decided c m ≡ None → Extends c e → Extends c ((m, v) ∷ e)
  adding_extends e m v free alike l w d = elim (cases_eq m l) [
    | inl same ↦ absurd (
        let none : decided c l ≡ None = subst (λ (k : ℕ). decided c k ≡ None) same free in
        let bad : ◌≡◌ {A = Option Value} None (Some w) = sym none ∙ d in
        cc bad)
    | inr other ↦ decided_there m l v e other ∙ alike l w d
  ]

  own_extends : Extends c c
  own_extends l v d = d

  held_extends : (l : ℕ) → Extends c (held u c l)
  held_extends l = of_held (λ (e : Choice). Extends c e) l own_extends (λ none. adding_extends c l (as_is u l) none own_extends)

  step_extends : (e : Choice) (step : IsStep u c e) → Extends c e
  step_extends e step =
      subst (λ (x : Choice). Extends c x) (sym step.is)
      (adding_extends step.before step.line step.value step.may.free (of_before (λ (x : Choice). Extends c x) own_extends held_extends step.before step.is_before))

  -- an option decides alike what is decided
  pub option_extends : (o : Obligation) (e : Choice) → IsOption u c o e → Extends c e
  option_extends o e is = step_extends e (option_step o e is)

  -- and a line more
  pub option_fewer : (o : Obligation) (e : Choice) → IsOption u c o e → free_below e (lines u) < free_below c (lines u)
  option_fewer o e is =
      let step = option_step o e is in
      fewer_free c e (lines u) step.line step.value (step_extends e step) step.may.there step.may.free
      (ap (λ (x : Choice). decided x step.line) step.is ∙ decided_here step.line step.value step.before)

module _ (u : Universe) where
  adding_values : (c : Choice) (m : ℕ) (v : Value) → DecidesValues u c → (m < lines u → IsValue (offer_at u m) v) → DecidesValues u ((m, v) ∷ c)
  adding_values c m v good here l w there d = elim (cases_eq m l) [
    | inl same ↦ (
        let first : decided ((m, v) ∷ c) m ≡ Some v = decided_here m v c in
        let second : decided ((m, v) ∷ c) m ≡ Some w = ap (λ (k : ℕ). decided ((m, v) ∷ c) k) same ∙ d in
        let both : v ≡ w = (let some : ◌≡◌ {A = Option Value} (Some v) (Some w) = sym first ∙ second in cc some) in
        subst (λ (k : ℕ). IsValue (offer_at u k) w) same (subst (λ (x : Value). IsValue (offer_at u m) x) both (here (subst (λ (k : ℕ). k < lines u) (sym same) there))))
    | inr other ↦ good l w there (sym (decided_there m l v c other) ∙ d)
  ]

  held_values : (c : Choice) (l : ℕ) → DecidesValues u c → DecidesValues u (held u c l)
  held_values c l good = of_held u c (λ (e : Choice). DecidesValues u e) l good (λ none. adding_values c l (as_is u l) good (λ there. standing_is_value (offer_at u l)))

  -- an option decides values of the lines, where the choice does
  pub option_values : (c : Choice) (o : Obligation) (e : Choice) → DecidesValues u c → IsOption u c o e → DecidesValues u e
  option_values c o e good is =
      let step = option_step u c o e is in
      subst (λ (x : Choice). DecidesValues u x) (sym step.is)
      (adding_values step.before step.line step.value
      (of_before u c (λ (x : Choice). DecidesValues u x) good (λ l. held_values c l good) step.before step.is_before)
      (λ there. step.may.value))

-- a filling that agrees with a choice, and with what a later one adds, agrees with the later one
pub allows_later : (c e : Choice) (f : Filling) → Extends c e → Allows c f → AgreesNew c e f → Allows e f
allows_later c e f alike allows agrees l v d = elim (decided_or_not c l) [
  | inl none ↦ agrees l v none d
  | inr some ↦ (
      let two : ◌≡◌ {A = Option Value} (Some some.0) (Some v) = sym (alike l some.0 some.1) ∙ d in
      let same : some.0 ≡ v = cc two in
      allows l some.0 some.1 ∙ same)
]

-- a choice is allowed by what a later one fills the lines with
pub later_allowed : (u : Universe) (c e : Choice) → Extends c e → Allows c (filling u e)
later_allowed u c e alike l v d = filling_decided u e l v (alike l v d)
