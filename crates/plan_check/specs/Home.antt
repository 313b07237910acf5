-- What a package needs while it runs, among the packages that are there at a moment.
use Rattle.std.specs.Prelude.{◌≡◌, false, List, Option, None, Some}
use Rattle.pkg_state.specs.Consistent.{facts_of, is_met}
use Rattle.pkg_state.specs.Fault.{lacking_leaf}
use Rattle.pkg_state.specs.Package.{Package}
use Rattle.pkg_state.specs.declared.class.Class.TheVariants.{Rdepend}
use Rattle.plan_law.specs.Lives.{Life}
use Rattle.plan_rules.specs.Refusals.{Refusal, Refusal as refused}
use Rattle.plan_rules.specs.Order.{number_of}
use Rattle.plan_rules.specs.Verdicts.{refuse}

-- a rule for the packages that are there; it says the same of lists with the same members
abbrev pub among :
    (List Package → Type 0) → (List Package → Option Refusal → Type 0) → Option Refusal → Type 0
among AreThere rule None = (ps : List Package) → AreThere ps → rule ps None
among AreThere rule (Some e) = (ps : List Package) × AreThere ps × rule ps (Some e)

-- what the package needs while it runs is among these
abbrev pub met_rule : Life → List Package → Option Refusal → Type 0
met_rule x ps =
    refuse (is_met (facts_of ps) Rdepend x.package_is ≡ false)
    (refused.Unsatisfied (number_of x.birth) x.package_is.facts.id Rdepend
    (lacking_leaf (facts_of ps) Rdepend x.package_is))
