-- What is told of the rules that are tried one after another.
use Rattle.std.proofs.Common.{◌≡◌, true, Option, None, Some, inl, inr}
use Rattle.std.specs.Prelude.{Result, Ok, Err, IfSome, OnOk, is_ok}
use Rattle.plan_rules.specs.Refusals.{Refusal, told}
use Rattle.plan_rules.specs.Verdicts.{both}
use Rattle.plan_rules.specs.declared.refusal.PlanRefused.{PlanRefused}
use Rattle.plan_rules.proofs.Trying.{told_more}

-- what holds on Ok holds where that is the answer
pub on_ok : {T E : Type 0} (r : Result T E) (P : Type 0) → OnOk r P → is_ok r ≡ true → P
on_ok (Ok x) P h e = h
on_ok (Err x) P h e = absurd (cc e)

abbrev pub Tells : (Option Refusal → Type 0) → PlanRefused → Type 0
Tells J e = IfSome (told e) (λ a. J (Some a))

pub tells_first : (J K : Option Refusal → Type 0) (e : PlanRefused) → Tells J e → Tells (both J K) e
tells_first J K e h = told_more J (both J K) e (λ a j. inl j) h

pub tells_later : (J K : Option Refusal → Type 0) (e : PlanRefused) → J None → Tells K e → Tells (both J K) e
tells_later J K e passed h = told_more K (both J K) e (λ a k. inr (passed, k)) h
