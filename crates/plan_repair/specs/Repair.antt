-- When a plan of at most one group repairs the packages that are there, and else what is told.
use Rattle.std.specs.Prelude.{◌≡◌, ℕ, Bool, not, List, Option, None, Some, bytes_eq, map}
use Rattle.std.specs.List.{list_any}
use Rattle.dep_tree.specs.Texts.{no_dependencies}
use Rattle.required_use.specs.Texts.{no_expressions}
use Rattle.pkg_state.specs.Consistent.{AreConsistent}
use Rattle.pkg_state.specs.Eapis.{empty_holds}
use Rattle.pkg_state.specs.Fault as state
use Rattle.pkg_state.specs.Package.{Package, line_of}
use Rattle.pkg_state.specs.declared.class.Class.TheVariants.{Rdepend}
use Rattle.plan_law.specs.Accepted.{IsAccepted}
use Rattle.plan_law.specs.Plans.{Group, changed, group_at}
use Rattle.plan_check.specs.Asks.{AskedValue}
use Rattle.plan_check.specs.Binding.{AreBound}
use Rattle.plan_check.specs.PackageRules.{check_rule}
use Rattle.plan_rules.specs.Order.{AreInOrder, package_key}
use Rattle.plan_rules.specs.Refusals.{Refusal, Refusal as refused}
use Rattle.plan_rules.specs.Verdicts.{both}

-- the package as if it needed nothing: it blocks nothing either, and asks nothing of its flags
abbrev pub bare : Package → Package
bare p =
    record {
      facts = p.facts;
      eapi = p.eapi;
      rdepend = no_dependencies (empty_holds p.eapi);
      pdepend = no_dependencies (empty_holds p.eapi);
      depend = no_dependencies (empty_holds p.eapi);
      bdepend = no_dependencies (empty_holds p.eapi);
      idepend = no_dependencies (empty_holds p.eapi);
      required = no_expressions (empty_holds p.eapi);
    }

-- the package is on none of the lines
abbrev pub is_elsewhere : List (List ℕ) → Package → Bool
is_elsewhere lines p = not (list_any (λ line. bytes_eq line (line_of p.facts)) lines)

-- the packages behind the one group of a plan; without one they are as they were
abbrev pub behind : List Group → List Package → List Package
behind plan start = changed (group_at plan 0) start

-- the plan repairs the packages, where its additions ask this
pub record IsRepair (plan : List Group) (start : List Package)
    (asks : List AskedValue) : Type 0 where
  -- it is accepted over them as if they needed nothing, so what comes fits
  pub accepted : IsAccepted plan (map bare start)
  -- its binds are right
  pub bound : AreBound plan (map bare start) asks
  -- and what is there then goes together
  pub consistent : AreConsistent (behind plan start)

-- the rule of a plan that fits what is wrong with packages; behind a plan that is accepted no two
-- are on one line, and only what was there before may lack something
abbrev pub refusal_of : state.Fault → Refusal
refusal_of (state.SlotTwice one other) = refused.Occupied 1 one other
refusal_of (state.RequiredUse one) = refused.RequiredUse one
refusal_of (state.Blocked one by) = refused.Blocked by one
refusal_of (state.Runtime one missing) = refused.Unsatisfied 0 one Rdepend missing

-- the packages go together, or what is first wrong with them by their lines is told
abbrev pub consistent_rule : List Package → Option Refusal → Type 0
consistent_rule ps None = AreConsistent ps
consistent_rule ps (Some e) =
    (qs : List Package) × AreInOrder package_key ps qs
    × ((fault : state.Fault) × state.IsFirstFault qs fault × (e ≡ refusal_of fault))

-- the rules for what comes, and then that for what is there
abbrev pub repair_rule :
    List Group → List Package → List AskedValue → Option Refusal → Type 0
repair_rule plan start asks =
    both (check_rule plan (map bare start) asks) (consistent_rule (behind plan start))
