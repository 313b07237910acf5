-- What is told of the packages that are there.
use Rattle.std.proofs.Common.{◌↔◌, ◌∙◌, List, None, Some}
use Rattle.std.specs.Prelude.{Result}
use Rattle.basics.specs.Members.{Has}
use Rattle.pkg_state.specs.Package.{Package}
use Rattle.pkg_state.specs.declared.class.Class.TheVariants.{Rdepend}
use Rattle.plan_law.specs.Lives.{Life}
use Rattle.plan_check.specs.Home.{among, met_rule}
use Rattle.plan_rules.specs.Refusals.{Says}
use Rattle.plan_rules.specs.declared.refusal.PlanRefused.{PlanRefused}
use Rattle.plan_rules.proofs.Consistent.{same_met}
use Rattle.plan_rules.proofs.Trying.{Hears, says_more}

-- what is said of one list of the packages that are there is said of them all
pub says_among : {T : Type 0} (IsThere : Package → Type 0) (x : Life) (ps : List Package) (r : Result T PlanRefused)
    → ((p : Package) → Has ps p ↔ IsThere p) → Says (met_rule x ps) r → Says (among (λ qs. (p : Package) → Has qs p ↔ IsThere p) (met_rule x)) r
says_among IsThere x ps r there said = says_more (met_rule x ps) (among (λ qs. (p : Package) → Has qs p ↔ IsThere p) (met_rule x)) r hears said where
  hears : Hears (met_rule x ps) (among (λ qs. (p : Package) → Has qs p ↔ IsThere p) (met_rule x))
  hears None met = λ qs others off. met (same_met ps qs (λ p. ((λ h. (others p).1 ((there p).0 h)), (λ h. (there p).1 ((others p).0 h)))) Rdepend x.package_is ∙ off)
  hears (Some e) h = (ps, there, h)
