-- What becomes of the text of a plan, over the packages that are offered and those that are
-- installed.
use Rattle.std.specs.Prelude.{◌≡◌, List, None, Some, ⊤}
use Rattle.pkg_state.specs.Package.{Package}
use Rattle.plan_law.specs.Accepted.{IsAccepted}
use Rattle.plan_law.specs.Plans.{Group}
use Rattle.plan_law.specs.Sound.{IsSound}
use Rattle.plan_text.specs.Plans.{GroupValue}
use Rattle.plan_check.specs.Asks.{AskedValue}
use Rattle.plan_check.specs.Binding.{AreBound}
use Rattle.plan_check.specs.PackageRules.{check_rule}
use Rattle.plan_rules.specs.Refusals.{Refusal, told}
use Rattle.plan_rules.specs.declared.refusal.PlanRefused.{PlanRefused}
use Rattle.plan_model.specs.Asking.{AreAsked}
use Rattle.plan_model.specs.Faults.{link_rule}
use Rattle.plan_model.specs.Linked.{IsLinked}
use Rattle.plan_model.specs.declared.fault.NotAccepted.{NotAccepted}
use Rattle.plan_model.specs.declared.fault.NotAccepted.TheVariants.{Memory, Refused, Unlinked}

-- the groups stand for the plan, over the packages that are offered, and its additions ask this
pub record StandsFor (offered : List Package) (groups : List GroupValue) (plan : List Group)
    (asks : List AskedValue) : Type 0 where
  pub linked : IsLinked offered groups plan
  pub asked : AreAsked offered groups asks

-- so they do, and the plan is accepted, hence sound over every order of its groups, with binds that
-- are right
pub record IsGood (installed offered : List Package) (groups : List GroupValue)
    (plan : List Group) : Type 0 where
  pub asks : List AskedValue
  pub stands : StandsFor offered groups plan asks
  pub accepted : IsAccepted plan installed
  pub bound : AreBound plan installed asks
  pub sound : IsSound plan installed

-- the groups stand for a plan that breaks a rule of the check, and this is the first one
pub record IsRefused (installed offered : List Package) (groups : List GroupValue)
    (fault : PlanRefused) : Type 0 where
  pub plan : List Group
  pub asks : List AskedValue
  pub stands : StandsFor offered groups plan asks
  pub refusal : Refusal
  pub is : told fault ≡ Some refusal
  pub rule : check_rule plan installed asks (Some refusal)

-- the fault is the first one of the groups: of their additions, or of the plan that they stand for;
-- want of memory says nothing
abbrev pub Breaks : List Package → List Package → List GroupValue → NotAccepted → Type 0
Breaks installed offered groups (Unlinked fault) = link_rule offered groups (Some fault)
Breaks installed offered groups (Refused fault) = IsRefused installed offered groups fault
Breaks installed offered groups Memory = ⊤

-- nothing is wrong with the groups: each addition is offered, whatever plan they stand for is
-- accepted, and the binds are right
pub record IsRight (installed offered : List Package) (groups : List GroupValue) : Type 0 where
  pub offers : link_rule offered groups None
  pub accepted : (plan : List Group) → IsLinked offered groups plan → IsAccepted plan installed
  pub bound : (plan : List Group) (asks : List AskedValue) →
      IsLinked offered groups plan → AreAsked offered groups asks → AreBound plan installed asks
