-- Each line is cleared first by some group from a place on, or by none.
use Rattle.std.proofs.Common.{◌≡◌, ◌<◌, ◌≤◌, ◌+◌, ℕ, zero, suc, true, false, List, length, inl, inr, ap, subst, arith, ◌∙◌}
use Rattle.std.proofs.lemmas.Bool.{cases_Bool, cases_lt, cases_eq}
use Rattle.std.proofs.lemmas.List.{get_or_past}
use Rattle.basics.specs.Members.{Has}
use Rattle.pkg_state.specs.Package.{Package}
use Rattle.plan_law.specs.Plans.{Group, clears, group_at, no_group}
use Rattle.plan_law.specs.Lives.{IsCleared, Moment, commit, never, opening}

-- past the end nothing is cleared
none_past : (plan : List Group) (line : List ℕ) (h : ℕ) → length plan ≤ h → clears (group_at plan h) line ≡ false
none_past plan line h past = ap (λ (g : Group). clears g line) (get_or_past plan h no_group past)

-- a group that clears a line is there
pub clearing_is_there : (plan : List Group) (g : ℕ) (line : List ℕ) → clears (group_at plan g) line ≡ true → g < length plan
clearing_is_there plan g line e = elim (cases_lt g (length plan)) [
  | inl less ↦ less
  | inr past ↦ absurd (let none = none_past plan line g past in cc (none, e))
]

-- and so is one that brings a package
pub adding_is_there : (plan : List Group) (g : ℕ) (p : Package) → Has (group_at plan g).additions p → g < length plan
adding_is_there plan g p h = elim (cases_lt g (length plan)) [
  | inl less ↦ less
  | inr past ↦ absurd (subst (λ (x : Group). Has x.additions p) (get_or_past plan g no_group past) h)
]

module _ (plan : List Group) (line : List ℕ) where
  abbrev First : ℕ → Type 0
  First from = (m : Moment) × IsCleared plan from line m

  not_here : (from h : ℕ) → clears (group_at plan from) line ≡ false → from ≤ h → clears (group_at plan h) line ≡ true → from + 1 ≤ h
  not_here from h none le e = elim (cases_eq from h) [
    | inl same ↦ absurd (let t : clears (group_at plan from) line ≡ true = ap (λ (n : ℕ). clears (group_at plan n) line) same ∙ e in cc (none, t))
    | inr other ↦ omega (arith, other, le)
  ]

  -- where nothing is cleared at a place, the first is that from the next on
  pub one_less : (from : ℕ) → clears (group_at plan from) line ≡ false → (m : Moment) → IsCleared plan (from + 1) line m → IsCleared plan from line m
  one_less from none opening c = absurd c
  one_less from none (commit g) c = (omega (arith, c.0), c.1, λ h le e. c.2 h (not_here from h none le e) e)
  one_less from none never c = λ h le e. c h (not_here from h none le e) e

  search_from : (left from : ℕ) → length plan ≤ from + left → First from
  search_from zero from all = (never, λ h le e. let past : length plan ≤ h = omega (arith, all, le) in cc (none_past plan line h past, e))
  search_from (suc left) from all = elim (cases_Bool (clears (group_at plan from) line)) [
    | inl e ↦ (commit from, (omega arith, e, λ h le k. le))
    | inr e ↦ (let k = search_from left (from + 1) (omega (arith, all)) in (k.0, one_less from e k.0 k.1))
  ]

  pub some_first : (from : ℕ) → First from
  some_first from = search_from (length plan) from (omega arith)
