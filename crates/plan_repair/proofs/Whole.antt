-- A run of a whole plan with at most one group leaves what is behind that group.
use Rattle.std.proofs.Common.{◌≡◌, ◌≤◌, ◌<◌, ℕ, List, [], ◌∷◌, length, inl, ap, sym, subst, arith}
use Rattle.std.specs.Prelude.{Result, Ok, Err, OnOk}
use Rattle.pkg_state.specs.Consistent.{AreConsistent}
use Rattle.pkg_state.specs.Package.{Package}
use Rattle.plan_law.specs.Plans.{Group, GoesOn, after, changed, group_at}
use Rattle.plan_law.specs.Sound.{IsWhole}
use Rattle.plan_check.specs.Asks.{AskedValue}
use Rattle.plan_rules.specs.declared.refusal.PlanRefused.{PlanRefused}
use Rattle.plan_repair.specs.Repair.{IsRepair, behind}
use Rattle.plan_repair.proofs.Staying.{all_stay}

the_first : (h : ℕ) → h < 1 → h ≡ 0
the_first h less = omega (arith, less)

-- of one group there is no second one
none_twice : (g : Group) (h k : ℕ) (run : List ℕ) → h < 1 → GoesOn (g ∷ []) (h ∷ []) (k ∷ run) → ⊥
none_twice g h k run less on = on.1 (inl (omega (arith, less, on.0)))

pub behind_whole : (plan : List Group) (start : List Package) (run : List ℕ) → length plan ≤ 1 → IsWhole plan run → after plan start run ≡ behind plan start
behind_whole [] start [] few w = sym (all_stay start)
behind_whole [] start (h ∷ run) few w = absurd (omega (arith, w.run_is.0))
behind_whole (g ∷ []) start [] few w = absurd (w.all 0 (omega arith))
behind_whole (g ∷ []) start (h ∷ []) few w = ap (λ (n : ℕ). changed (group_at (g ∷ []) n) start) (the_first h w.run_is.0)
behind_whole (g ∷ []) start (h ∷ k ∷ run) few w = absurd (none_twice g h k run w.run_is.0 w.run_is.3)
behind_whole (g ∷ f ∷ plan) start run few w = absurd (omega (arith, few))

module _ (plan : List Group) (start : List Package) (asks : List AskedValue) (few : length plan ≤ 1) where
  -- behind a run of the whole plan the packages go together
  pub wholly : {T : Type 0} (r : Result T PlanRefused) → OnOk r (IsRepair plan start asks) → OnOk r ((run : List ℕ) → IsWhole plan run → AreConsistent (after plan start run))
  wholly (Ok x) h = λ run w. subst AreConsistent (sym (behind_whole plan start run few w)) h.consistent
  wholly (Err e) h = tt
