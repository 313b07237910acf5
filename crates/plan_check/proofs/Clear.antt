-- No rule lets a plan pass and refuses it too.
use Rattle.std.proofs.Common.{◌≡◌, ◌⊎◌, ℕ, true, false, List, Option, None, Some, refl}
use Rattle.std.specs.Prelude.{Result, Ok, Err, IfErr, IfSome, OnOk}
use Rattle.pkg_state.specs.Consistent.{facts_of, fits_required, is_met}
use Rattle.pkg_state.specs.Fault.{lacking_leaf}
use Rattle.pkg_state.specs.Package.{Package}
use Rattle.pkg_state.specs.declared.class.Class.{Class}
use Rattle.pkg_state.specs.declared.class.Class.TheVariants.{Bdepend, Depend, Idepend, Pdepend}
use Rattle.pkg_state.proofs.Faults.{none_fits}
use Rattle.plan_law.specs.Plans.{Group, removed_line}
use Rattle.plan_law.specs.Lives.{Life, Moment, commit, never, opening}
use Rattle.plan_law.specs.Accepted.{IsAccepted}
use Rattle.plan_law.specs.Sound.{IsSound}
use Rattle.plan_lives.specs.Binding.{IsRightBind}
use Rattle.plan_lives.specs.Left.{left_of}
use Rattle.plan_check.specs.Asks.{AskedValue}
use Rattle.plan_check.specs.Binding.{AreBound, binds_rule}
use Rattle.plan_check.specs.PackageRules.{IsBarred, IsBlocked, binding_rule, built_of, built_rule, check_rule, coming_rule, finished_rule, if_brought, if_left, lasting_rule, lives_in, package_rule, plan_rule, required_rule, standing_rule, strong_rule, weak_rule}
use Rattle.plan_rules.specs.Refusals.{Refusal, Refusal as refused, Says, told}
use Rattle.plan_rules.specs.Order.{number_of}
use Rattle.plan_rules.specs.Rules.{Hinders, line_rule, opening_rule, present_at, present_of, present_rule, room_of, room_rule}
use Rattle.plan_rules.specs.Verdicts.{both, each, nothing, refuse}
use Rattle.plan_rules.specs.declared.refusal.PlanRefused.{PlanRefused}
use Rattle.plan_check.proofs.Accepting.{accepted, all_bound, none_refuses}
use Rattle.plan_check.proofs.Binds.{binds_clear}
use Rattle.plan_rules.proofs.Consistent.{consistent_moved}
use Rattle.plan_rules.proofs.Trying.{IsClear, both_clear, by_clear, each_clear, from_clear}

nothing_clear : {E : Type 0} → IsClear (nothing {E = E})
nothing_clear e h k = k

brought_clear : (b : Moment) (rule : ℕ → Option Refusal → Type 0) → ((g : ℕ) → IsClear (rule g)) → IsClear (if_brought b rule)
brought_clear opening rule clear = nothing_clear
brought_clear (commit g) rule clear = clear g
brought_clear never rule clear = nothing_clear

left_clear : (d : Moment) (rule : Option Refusal → Type 0) → IsClear rule → IsClear (if_left d rule)
left_clear opening rule clear = nothing_clear
left_clear (commit g) rule clear = nothing_clear
left_clear never rule clear = clear

line_clear : (plan : List Group) → IsClear (line_rule plan)
line_clear plan e h k = let u = k.1.unordered in u.apart (h k.0.lower k.0.higher k.0.line u.below u.one u.other)

opening_clear : (start : List Package) → IsClear (opening_rule start)
opening_clear start e h k = none_fits k.0 k.2.0 (consistent_moved start k.0 k.1.moved h) k.2.1

module _ (plan : List Group) (start : List Package) (all : List Life) where
  required_clear : (x : Life) → IsClear (required_rule x)
  required_clear x = brought_clear x.birth (λ g. refuse (fits_required x.package_is ≡ false) (refused.RequiredUse x.package_is.facts.id)) (λ g e h k. h k.0)

  lasting_clear : (x : Life) → IsClear (lasting_rule plan start x)
  lasting_clear x e h k = k.0 h

  weak_clear : (x : Life) → IsClear (weak_rule plan all x)
  weak_clear x = each_clear all (λ (y : Life). refuse (IsBlocked plan false x y) (refused.Blocked x.package_is.facts.id y.package_is.facts.id)) (λ y e h k. h k.0)

  strong_clear : (x : Life) → IsClear (strong_rule plan all x)
  strong_clear x = each_clear all (λ (y : Life). refuse (IsBlocked plan true x y ⊎ IsBarred plan x.package_is x.birth y) (refused.Barred (number_of x.birth) x.package_is.facts.id y.package_is.facts.id)) (λ y e h k. h k.0)

  class_clear : (p : Package) (class : Class) (g : ℕ) → IsClear (built_of plan start p class g)
  class_clear p class g e h k = k.0 h

  classes_clear : (p : Package) (g : ℕ) → IsClear (both (built_of plan start p Depend g) (both (built_of plan start p Bdepend g) (built_of plan start p Idepend g)))
  classes_clear p g = both_clear (built_of plan start p Depend g) (both (built_of plan start p Bdepend g) (built_of plan start p Idepend g)) (class_clear p Depend g) (both_clear (built_of plan start p Bdepend g) (built_of plan start p Idepend g) (class_clear p Bdepend g) (class_clear p Idepend g))

  built_clear : (x : Life) → IsClear (built_rule plan start x)
  built_clear x = brought_clear x.birth (λ g. both (built_of plan start x.package_is Depend g) (both (built_of plan start x.package_is Bdepend g) (built_of plan start x.package_is Idepend g))) (classes_clear x.package_is)

  abbrev final : Package → Option Refusal → Type 0
  final p = refuse (is_met (facts_of (left_of plan start)) Pdepend p ≡ false) (refused.Final p.facts.id (lacking_leaf (facts_of (left_of plan start)) Pdepend p))

  finished_clear : (x : Life) → IsClear (finished_rule plan start x)
  finished_clear x = brought_clear x.birth (λ g. if_left x.death (final x.package_is)) (λ g. left_clear x.death (final x.package_is) (λ e h k. h k.0))

  binding_clear : (x : Life) (asked : AskedValue) → IsClear (binding_rule plan start x asked)
  binding_clear x asked = brought_clear x.birth (λ g. binds_rule (IsRightBind plan start g x.package_is.facts.enabled) x.package_is.facts.id asked.leaves asked.binds) (λ g. binds_clear (IsRightBind plan start g x.package_is.facts.enabled) x.package_is.facts.id asked.leaves asked.binds)

  package_clear : (it : Life × AskedValue) → IsClear (package_rule plan start all it)
  package_clear it =
      let x = it.0 in
      both_clear (coming_rule plan start x it.1) (standing_rule plan start all x) (both_clear (required_rule x) (binding_rule plan start x it.1) (required_clear x) (binding_clear x it.1))
      (both_clear (lasting_rule plan start x) (both (weak_rule plan all x) (both (strong_rule plan all x) (both (built_rule plan start x) (finished_rule plan start x)))) (lasting_clear x)
      (both_clear (weak_rule plan all x) (both (strong_rule plan all x) (both (built_rule plan start x) (finished_rule plan start x))) (weak_clear x)
      (both_clear (strong_rule plan all x) (both (built_rule plan start x) (finished_rule plan start x)) (strong_clear x)
      (both_clear (built_rule plan start x) (finished_rule plan start x) (built_clear x) (finished_clear x)))))

  present_clear : IsClear (present_rule plan start)
  present_clear = from_clear 0 plan (present_at plan start) (λ g group. by_clear removed_line group.removals (present_of plan start g) (λ r e h k. k.0 h))

  room_clear : IsClear (room_rule plan all)
  room_clear = from_clear 0 all (room_of plan all) (λ i x. from_clear 0 all (λ (j : ℕ) (y : Life). refuse ((¬ (j ≡ i)) × Hinders plan x y) (refused.Occupied (number_of x.birth) x.package_is.facts.id y.package_is.facts.id)) (λ j y e h k. h k.0))

  plan_clear : (them : List (Life × AskedValue)) → IsClear (plan_rule plan start all them)
  plan_clear them =
      both_clear (line_rule plan) (both (present_rule plan start) (both (room_rule plan all) (both (opening_rule start) (each them (package_rule plan start all))))) (line_clear plan)
      (both_clear (present_rule plan start) (both (room_rule plan all) (both (opening_rule start) (each them (package_rule plan start all)))) present_clear
      (both_clear (room_rule plan all) (both (opening_rule start) (each them (package_rule plan start all))) room_clear
      (both_clear (opening_rule start) (each them (package_rule plan start all)) (opening_clear start) (each_clear them (package_rule plan start all) package_clear))))

module _ (plan : List Group) (start : List Package) where
  -- an accepted plan whose binds are right is refused for want of memory alone
  pub fine : {T : Type 0} (asks : List AskedValue) (r : Result T PlanRefused) → IfErr r (λ e. IfSome (told e) (λ a. check_rule plan start asks (Some a))) → IsAccepted plan start → AreBound plan start asks → IfErr r (λ e. told e ≡ None)
  fine asks (Ok x) refused ok right = tt
  fine asks (Err e) refused ok right = none_told (told e) refused where
    none_told : (o : Option Refusal) → IfSome o (λ a. check_rule plan start asks (Some a)) → o ≡ None
    none_told None h = refl
    none_told (Some a) h = absurd (plan_clear plan start (lives_in h.0) h.0 a (none_refuses plan start asks h.0 h.1 ok right) h.2)

  pub passed : {T : Type 0} (asks : List AskedValue) (r : Result T PlanRefused) → Says (check_rule plan start asks) r → OnOk r (IsAccepted plan start)
  passed asks (Ok x) h = accepted plan start asks h.0 h.1 h.2
  passed asks (Err e) h = tt

  pub passed_none : {T : Type 0} (asks : List AskedValue) (r : Result T PlanRefused) → Says (check_rule plan start asks) r → OnOk r (check_rule plan start asks None)
  passed_none asks (Ok x) h = h
  passed_none asks (Err e) h = tt

  pub bound_if : {T : Type 0} (asks : List AskedValue) (r : Result T PlanRefused) → Says (check_rule plan start asks) r → OnOk r (AreBound plan start asks)
  bound_if asks (Ok x) h = all_bound plan start asks h.0 h.1 h.2
  bound_if asks (Err e) h = tt

  pub refused_told : {T : Type 0} (asks : List AskedValue) (r : Result T PlanRefused) → Says (check_rule plan start asks) r → IfErr r (λ e. IfSome (told e) (λ a. check_rule plan start asks (Some a)))
  refused_told asks (Ok x) h = tt
  refused_told asks (Err e) h = h

  pub sound_if : {T : Type 0} (r : Result T PlanRefused) → (IsAccepted plan start → IsSound plan start) → OnOk r (IsAccepted plan start) → OnOk r (IsSound plan start)
  sound_if (Ok x) law ok = law ok
  sound_if (Err e) law ok = tt
