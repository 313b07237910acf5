-- The plan of a command: of which choice it is, and which of the plans of that choice.
use Rattle.std.specs.Prelude.{◌≡◌, ◌⊎◌, ℕ, Bool, List, None}
use Rattle.pkg_state.specs.Package.{Package}
use Rattle.choice_law.specs.Universe.{Universe}
use Rattle.choice_law.specs.Tree.{Choice}
use Rattle.plan_text.specs.Plans.{GroupValue}
use Rattle.plan_text.specs.Texts.{IsPlan}
use Rattle.plan_rules.specs.declared.refusal.PlanRefused.{PlanRefused}
use Rattle.plan_model.specs.Accepting.{IsRefused}
use Rattle.resolver.specs.Answers.{IsChosen}
use Rattle.merge_groups.specs.Arranged.{IsFine, IsLevel}
use Rattle.emerge_choose.specs.Wishes.{first_unserved}

-- the check refuses these groups
abbrev pub AreRefused : List Package → List Package → List GroupValue → Type 0
AreRefused installed offered groups =
    (fault : PlanRefused) × IsRefused installed offered groups fault

-- the check refuses the fine plan of the choice, and these groups are its level plan
pub record IsSecondPlan (installed offered : List Package) (u : Universe) (c : Choice)
    (groups : List GroupValue) : Type 0 where
  pub fine : List GroupValue
  pub is_fine : IsFine installed u c fine
  pub refused : AreRefused installed offered fine
  pub level : IsLevel installed u c groups

-- the groups are the fine plan of the choice, or, where the check refuses that, the level plan
abbrev pub IsPlanOf : List Package → List Package → Universe → Choice → List GroupValue → Type 0
IsPlanOf installed offered u c groups =
    IsFine installed u c groups ⊎ IsSecondPlan installed offered u c groups

-- the groups are the plan of the first good leaf, where each wanted atom matches a value of the
-- universe
pub record IsPlanOver (installed offered : List Package) (update : Bool) (limit : ℕ)
    (u : Universe) (groups : List GroupValue) : Type 0 where
  pub served : first_unserved u ≡ None
  pub choice : Choice
  pub chosen : IsChosen update u limit choice
  pub plan : IsPlanOf installed offered u choice groups
  pub form : IsPlan groups

-- something holds of the first good leaf, where each wanted atom matches a value of the universe
pub record OfFirst (update : Bool) (limit : ℕ) (u : Universe)
    (Holds : Choice → Type 0) : Type 0 where
  pub served : first_unserved u ≡ None
  pub choice : Choice
  pub chosen : IsChosen update u limit choice
  pub holds : Holds choice
