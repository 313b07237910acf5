-- What a command is answered.
use Rattle.std.specs.Prelude.{◌≡◌, ℕ, Bool, List, None, Some, ⊤}
use Rattle.dep_atom.specs.Values.{atom_value}
use Rattle.pkg_state.specs.Package.{Package}
use Rattle.choice_law.specs.Tree.{Choice}
use Rattle.choice_law.specs.Universe.{Universe}
use Rattle.choice_ends.specs.Ends.{AreDeadEnds}
use Rattle.choice_ends.specs.declared.ends.DeadEnd.{DeadEnd}
use Rattle.plan_text.specs.Plans.{GroupValue, plan_value}
use Rattle.plan_rules.specs.declared.refusal.PlanRefused.{PlanRefused}
use Rattle.plan_model.specs.Accepting.{IsGood, IsRefused}
use Rattle.plan_model.specs.Faults.{link_rule}
use Rattle.plan_model.specs.declared.fault.LinkFault.{LinkFault}
use Rattle.plan_model.specs.declared.fault.NotAccepted.{NotAccepted}
use Rattle.plan_model.specs.declared.fault.NotAccepted.TheVariants as accepting
use Rattle.resolver.specs.Answers.{HasNone, IsTooMany}
use Rattle.merge_groups.specs.Arranged.{HasNoPlan}
use Rattle.merge_groups.specs.declared.arranged.NotArranged.{NotArranged}
use Rattle.merge_groups.specs.declared.arranged.NotArranged.TheVariants as arranging
use Rattle.emerge_choose.specs.Plans.{IsPlanOf, IsPlanOver, IsSecondPlan, OfFirst}
use Rattle.emerge_choose.specs.Reasons.{AreReasons}
use Rattle.emerge_choose.specs.Wishes.{first_unserved}
use Rattle.emerge_choose.specs.declared.chosen.Chosen.{Chosen}
use Rattle.emerge_choose.specs.declared.fault.NotChosen.{NotChosen}
use Rattle.emerge_choose.specs.declared.fault.NotChosen.TheVariants.{BacktrackLimit, BuildCycle, Limit, Memory, NoCandidate, NoOrder, NoSolution, Unlinked}
use Rattle.emerge_choose.specs.declared.reason.NotTaken.{NotTaken}

-- the plan is that of the universe, and it is accepted
pub record IsChosenPlan (installed offered : List Package) (update : Bool) (limit : ℕ)
    (u : Universe) (chosen : Chosen) : Type 0 where
  pub of_universe : IsPlanOver installed offered update limit u (plan_value chosen.text)
  pub good : IsGood installed offered (plan_value chosen.text) chosen.plan

-- what it is called that the changes of a choice have no groups
abbrev pub not_arranged : NotArranged → NotChosen
not_arranged (arranging.BuildCycle packages) = BuildCycle packages
not_arranged arranging.Limit = Limit
not_arranged arranging.Memory = Memory

-- .. and that the level plan isn't accepted
abbrev pub not_accepted : NotAccepted → NotChosen
not_accepted (accepting.Unlinked fault) = Unlinked fault
not_accepted (accepting.Refused fault) = NoOrder fault
not_accepted accepting.Memory = Memory

-- there is no solution: some choices were tried in vain, and these dead ends are the first of them
abbrev pub HasNoSolution : Bool → ℕ → Universe → List DeadEnd → Type 0
HasNoSolution update limit u dead =
    (refuted : List Choice) × HasNone update u limit refuted × AreDeadEnds u refuted dead

-- an addition of the choice's plan isn't offered as it is written
abbrev pub IsUnlinked : List Package → List Package → Universe → Choice → LinkFault → Type 0
IsUnlinked installed offered u c fault =
    (groups : List GroupValue) × IsPlanOf installed offered u c groups
    × link_rule offered groups (Some fault)

-- the check refuses both plans of the choice, and this is what is wrong with the level plan
abbrev pub HasNoOrder : List Package → List Package → Universe → Choice → PlanRefused → Type 0
HasNoOrder installed offered u c fault =
    (level : List GroupValue) × IsSecondPlan installed offered u c level
    × IsRefused installed offered level fault

-- the universe has no plan, for this reason; want of memory says nothing
abbrev pub Tells : List Package → List Package → List NotTaken → Bool → ℕ → Universe →
    NotChosen → Type 0
Tells installed offered hidden update limit u (NoCandidate atom reasons) =
    (first_unserved u ≡ Some (atom_value atom))
    × AreReasons atom.name offered hidden reasons.items
Tells installed offered hidden update limit u (NoSolution dead) =
    (first_unserved u ≡ None) × HasNoSolution update limit u dead.items
Tells installed offered hidden update limit u (BacktrackLimit refuted dead) =
    (first_unserved u ≡ None) × IsTooMany update u limit refuted.items
    × AreDeadEnds u refuted.items dead.items
Tells installed offered hidden update limit u (BuildCycle packages) =
    OfFirst update limit u (λ c. HasNoPlan u c (arranging.BuildCycle packages))
Tells installed offered hidden update limit u Limit =
    OfFirst update limit u (λ c. HasNoPlan u c arranging.Limit)
Tells installed offered hidden update limit u (Unlinked fault) =
    OfFirst update limit u (λ c. IsUnlinked installed offered u c fault)
Tells installed offered hidden update limit u (NoOrder fault) =
    OfFirst update limit u (λ c. HasNoOrder installed offered u c fault)
Tells installed offered hidden update limit u Memory = ⊤
