-- What is told of a plan that the check refuses.
use Rattle.std.proofs.Common.{◌≡◌, ◌⊎◌, List, Option, None, Some, inl, inr, refl, subst, sym}
use Rattle.std.specs.Prelude.{IfSome, IsSome}
use Rattle.pkg_state.specs.Package.{Package}
use Rattle.plan_law.specs.Plans.{Group}
use Rattle.plan_text.specs.Plans.{GroupValue}
use Rattle.plan_check.specs.Asks.{AskedValue}
use Rattle.plan_check.specs.PackageRules.{check_rule}
use Rattle.plan_rules.specs.Refusals.{Refusal, told}
use Rattle.plan_rules.specs.declared.refusal.PlanRefused.{PlanRefused}
use Rattle.plan_model.specs.Accepting.{Breaks, IsRefused, StandsFor}
use Rattle.plan_model.specs.declared.fault.NotAccepted.{NotAccepted}
use Rattle.plan_model.specs.declared.fault.NotAccepted.TheVariants.{Memory, Refused}

-- the refusal says that memory is wanting, or this
abbrev pub TellsOf : PlanRefused → NotAccepted → Type 0
TellsOf refused result = ((result ≡ Memory) × ¬ IsSome (told refused)) ⊎ ((result ≡ Refused refused) × IsSome (told refused))

module _ (installed offered : List Package) (groups : List GroupValue) (plan : List Group) (asks : List AskedValue) (stands : StandsFor offered groups plan asks) (refused : PlanRefused) where
  is_refused : (o : Option Refusal) → told refused ≡ o → IfSome o (λ refusal. check_rule plan installed asks (Some refusal)) → IsSome o → IsRefused installed offered groups refused
  is_refused None e rule some = absurd (cc some)
  is_refused (Some refusal) e rule some = record { plan = plan; asks = asks; stands = stands; refusal = refusal; is = e; rule = rule }

  pub refused_breaks : (result : NotAccepted) → TellsOf refused result → IfSome (told refused) (λ refusal. check_rule plan installed asks (Some refusal)) → Breaks installed offered groups result
  refused_breaks result (inl is) rule = subst (λ (r : NotAccepted). Breaks installed offered groups r) (sym is.0) tt
  refused_breaks result (inr is) rule = subst (λ (r : NotAccepted). Breaks installed offered groups r) (sym is.0) (is_refused (told refused) refl rule is.1)

-- where nothing is told, memory was wanting
pub untold : (refused : PlanRefused) (result : NotAccepted) → TellsOf refused result → told refused ≡ None → result ≡ Memory
untold refused result (inl is) none = is.0
untold refused result (inr is) none = absurd (cc (is.1, none))
