-- From what is found of each package to what is found of all.
use Rattle.std.proofs.Common.{◌≡◌, ◌&&◌, Bool, true, false, not, List, Option, Some, None, refl}
use Rattle.std.specs.Prelude.{IfErr, IfSome, MatchResult, OnOk, Result, Ok, Err}
use Rattle.std.specs.List.{find}
use Rattle.std.proofs.lemmas.Bool.{both_ways, false_from_ne_true, false≢true, not-true}
use Rattle.pkg_state.specs.Package.{Package}
use Rattle.pkg_state.specs.Consistent.{AreApart, AreConsistent, blocks, facts_of, fits_required, is_blocked, is_met}
use Rattle.pkg_state.specs.Fault.{Fault, IsFirstFault, IsTold, IsWrong, is_right, told}
use Rattle.pkg_state.specs.Fault.Fault.{Blocked, RequiredUse, Runtime, SlotTwice}
use Rattle.pkg_state.specs.declared.broken.Broken.{Broken}
use Rattle.pkg_state.specs.declared.broken.Broken.TheVariants as broken
use Rattle.pkg_state.specs.declared.class.Class.TheVariants.{Rdepend}
use Rattle.pkg_state.proofs.Faults.{first_fault, none_fits, once}
use Rattle.pkg_state.proofs.Lists.{found_passes, none_passes}

-- the three parts, each of which may fail
not_right : (a b c : Bool) → (a && (b && c)) ≡ true → (a ≡ true) × (b ≡ true) × (c ≡ true)
not_right true true true e = (refl, refl, refl)
not_right true true false e = absurd (false≢true e)
not_right true false c e = absurd (false≢true e)
not_right false b c e = absurd (false≢true e)

pub wrong_is_not_right : (ps : List Package) (p : Package) (a : Fault) → IsWrong ps p a → is_right ps p ≡ false
wrong_is_not_right ps p a w = false_from_ne_true (is_right ps p) (λ e.
    let parts = not_right (fits_required p) (not (is_blocked ps p)) (is_met (facts_of ps) Rdepend p) e in
    clash a w parts.0 parts.1 parts.2) where
      clash : (a : Fault) → IsWrong ps p a → fits_required p ≡ true → not (is_blocked ps p) ≡ true → is_met (facts_of ps) Rdepend p ≡ true → ⊥
      clash (SlotTwice one other) w f b m = w
      clash (RequiredUse one) w f b m = both_ways (fits_required p) w.1 f
      clash (Blocked one by) w f b m =
          let there = found_passes (λ q. blocks q p) ps w.2.0 w.2.1 in
          both_ways (blocks w.2.0 p) (none_passes (λ q. blocks q p) ps (not-true (is_blocked ps p) b) w.2.0 there.0) there.1
      clash (Runtime one missing) w f b m = both_ways (is_met (facts_of ps) Rdepend p) w.3 m

-- of the first package that isn't right, what is wrong is the first fault of all
pub first_of_all : (ps : List Package) (p : Package) (o : Option Fault) → AreApart ps → (((a : Fault) → IsWrong ps p a → find (λ p. not (is_right ps p)) ps ≡ Some p)) → IfSome o (IsWrong ps p) → IfSome o (IsFirstFault ps)
first_of_all ps p None apart first w = tt
first_of_all ps p (Some a) apart first w = first_fault ps a (record { apart = apart; one = p; first = first a w; why = w })

-- what an answer leaves open
told_nothing : (e : Broken) → told e ≡ None → e ≡ broken.Memory
told_nothing (broken.Runtime one missing) h = absurd (cc h)
told_nothing (broken.Blocked one by) h = absurd (cc h)
told_nothing (broken.RequiredUse one) h = absurd (cc h)
told_nothing (broken.SlotTwice one other) h = absurd (cc h)
told_nothing broken.Memory h = refl

-- an answer that is right is the only one
module _ {T : Type 0} (ps : List Package) where
  pub fine : (r : Result T Broken) → IfErr r (λ e. IfSome (told e) (IsFirstFault ps)) → AreConsistent ps → IfErr r (λ e. e ≡ broken.Memory)
  fine (Ok x) fault are = tt
  fine (Err e) fault are = told_nothing e (nothing (told e) fault) where
    nothing : (o : Option Fault) → IfSome o (IsFirstFault ps) → o ≡ None
    nothing None h = refl
    nothing (Some a) h = absurd (none_fits ps a are h)

  pub only : (r : Result T Broken) → OnOk r (AreConsistent ps) → IfErr r (λ e. IfSome (told e) (IsFirstFault ps)) → (a : Fault) → IsFirstFault ps a → MatchResult r (λ _. ⊥) (IsTold a)
  only (Ok x) ok fault a is = none_fits ps a ok is
  only (Err e) ok fault a is = same (told e) fault where
    same : (o : Option Fault) → IfSome o (IsFirstFault ps) → IfSome o (λ f. f ≡ a)
    same None h = tt
    same (Some b) h = once ps b a h is
