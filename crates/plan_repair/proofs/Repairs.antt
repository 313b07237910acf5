-- What passes each rule is a repair, and a repair is refused by none.
use Rattle.std.proofs.Common.{◌≡◌, List, Option, None, Some, map, inl, inr, refl, sym, subst}
use Rattle.std.specs.Prelude.{Result, Ok, Err, IfErr, IfSome, OnOk}
use Rattle.std.specs.Option.{option_map}
use Rattle.pkg_state.specs.Consistent.{AreConsistent}
use Rattle.pkg_state.specs.Package.{Package}
use Rattle.pkg_state.specs.Fault.{Fault, IsFirstFault, told as told_broken}
use Rattle.pkg_state.specs.declared.broken.Broken.{Broken}
use Rattle.pkg_state.proofs.Faults.{none_fits}
use Rattle.plan_law.specs.Plans.{Group}
use Rattle.plan_check.specs.Asks.{AskedValue}
use Rattle.plan_check.specs.PackageRules.{check_rule}
use Rattle.plan_rules.specs.Refusals.{Refusal, Says, told}
use Rattle.plan_rules.specs.declared.refusal.PlanRefused.{PlanRefused}
use Rattle.plan_check.proofs.Accepting.{accepted, all_bound}
use Rattle.plan_check.proofs.Clear.{fine as plan_fine}
use Rattle.plan_rules.specs.Order.{AreInOrder, package_key}
use Rattle.plan_rules.proofs.Consistent.{consistent_moved}
use Rattle.plan_rules.proofs.Told.{Tells, tells_first}
use Rattle.plan_rules.proofs.Trying.{says_second}
use Rattle.plan_repair.specs.Repair.{IsRepair, bare, behind, consistent_rule, refusal_of, repair_rule}

-- what is first wrong is told as the rule that fits
pub told_fault : (ps qs : List Package) (b : Broken) (e : PlanRefused) → AreInOrder package_key ps qs → told e ≡ option_map refusal_of (told_broken b) → IfSome (told_broken b) (IsFirstFault qs) → Tells (consistent_rule ps) e
told_fault ps qs b e order is h = known (told_broken b) is h where
  known : (o : Option Fault) → told e ≡ option_map refusal_of o → IfSome o (IsFirstFault qs) → Tells (consistent_rule ps) e
  known None none h = subst (λ (o : Option Refusal). IfSome o (λ a. consistent_rule ps (Some a))) (sym none) tt
  known (Some f) some h = subst (λ (o : Option Refusal). IfSome o (λ a. consistent_rule ps (Some a))) (sym some) (qs, order, (f, h, refl))

module _ (plan : List Group) (start : List Package) (asks : List AskedValue) where
  module _ (ps : List Package) (bare_are : ps ≡ map bare start) where
    -- a plan that isn't accepted over the packages as if they needed nothing
    pub told_first : (e : PlanRefused) → Tells (check_rule plan ps asks) e → Tells (repair_rule plan start asks) e
    told_first e h = tells_first (check_rule plan (map bare start) asks) (consistent_rule (behind plan start)) e (subst (λ (qs : List Package). Tells (check_rule plan qs asks) e) bare_are h)

    -- a plan that is, and what is said of the packages behind it
    pub judged : {T : Type 0} (qs : List Package) (r : Result T PlanRefused) → qs ≡ behind plan start → check_rule plan ps asks None → Says (consistent_rule qs) r → Says (repair_rule plan start asks) r
    judged qs r are ok h =
        says_second (check_rule plan (map bare start) asks) (consistent_rule (behind plan start)) r
        (subst (λ (xs : List Package). check_rule plan xs asks None) bare_are ok)
        (subst (λ (xs : List Package). Says (consistent_rule xs) r) are h)

  none_wrong : (e : Refusal) → AreConsistent (behind plan start) → ¬ consistent_rule (behind plan start) (Some e)
  none_wrong e h k = none_fits k.0 k.2.0 (consistent_moved (behind plan start) k.0 k.1.moved h) k.2.1

  pub repairs : {T : Type 0} (r : Result T PlanRefused) → Says (repair_rule plan start asks) r → OnOk r (IsRepair plan start asks)
  repairs (Ok x) h = record { accepted = accepted plan (map bare start) asks h.0.0 h.0.1 h.0.2; bound = all_bound plan (map bare start) asks h.0.0 h.0.1 h.0.2; consistent = h.1 }
  repairs (Err e) h = tt

  pub refused_told : {T : Type 0} (r : Result T PlanRefused) → Says (repair_rule plan start asks) r → IfErr r (λ e. IfSome (told e) (λ a. repair_rule plan start asks (Some a)))
  refused_told (Ok x) h = tt
  refused_told (Err e) h = h

  -- a repair is refused for want of memory alone
  pub fine : {T : Type 0} (r : Result T PlanRefused) → IfErr r (λ e. IfSome (told e) (λ a. repair_rule plan start asks (Some a))) → IsRepair plan start asks → IfErr r (λ e. told e ≡ None)
  fine (Ok x) h ok = tt
  fine {T} (Err e) h ok = known (told e) refl h where
    known : (o : Option Refusal) → told e ≡ o → IfSome o (λ a. repair_rule plan start asks (Some a)) → told e ≡ None
    known None is k = is
    known (Some a) is (inl k) =
        let r : Result T PlanRefused = Err e in
        plan_fine plan (map bare start) asks r (subst (λ (o : Option Refusal). IfSome o (λ b. check_rule plan (map bare start) asks (Some b))) (sym is) k) ok.accepted ok.bound
    known (Some a) is (inr k) = absurd (none_wrong a ok.consistent k.1)
