-- Why there is no plan, and which plan there is, from the part that tells it to the whole.
use Rattle.std.proofs.Common.{◌≡◌, ℕ, Bool, List, [], Option, None, Some, Result, Ok, Err, inl, inr, refl, subst, sym}
use Rattle.std.specs.Prelude.{◌≢◌, IfErr}
use Rattle.std.specs.Option.{option_map}
use Rattle.basics.specs.Members.{Has}
use Rattle.pkg_state.specs.Package.{Package}
use Rattle.choice_law.specs.Tree.{Choice, Obligation}
use Rattle.choice_law.specs.Universe.{Universe}
use Rattle.choice_tree.specs.Open.{first_open}
use Rattle.choice_tree.specs.Tree.{tried_for}
use Rattle.plan_text.specs.Plans.{GroupValue, plan_value}
use Rattle.plan_rules.specs.declared.refusal.PlanRefused.{PlanRefused}
use Rattle.plan_model.specs.Accepting.{Breaks, IsRefused}
use Rattle.plan_model.specs.declared.fault.NotAccepted.{NotAccepted}
use Rattle.plan_model.specs.declared.fault.NotAccepted.TheVariants as accepting
use Rattle.resolver.specs.Answers.{AreHopeless, IsChosen}
use Rattle.merge_groups.specs.Arranged.{HasNoPlan, IsFine, IsLevel}
use Rattle.merge_groups.specs.declared.arranged.NotArranged.{NotArranged}
use Rattle.merge_groups.specs.declared.arranged.NotArranged.TheVariants as arranging
use Rattle.emerge_choose.specs.Answers.{IsChosenPlan, Tells, not_accepted, not_arranged}
use Rattle.emerge_choose.specs.Plans.{AreRefused, IsPlanOf, OfFirst}
use Rattle.emerge_choose.specs.Trying.{AreTried, IsFirstAccepted, NoneAccepted}
use Rattle.emerge_choose.specs.Wishes.{IsUniverse, Over, WishValue, first_unserved}
use Rattle.emerge_choose.specs.declared.chosen.Chosen.{Chosen}
use Rattle.emerge_choose.specs.declared.fault.NotChosen.{NotChosen}
use Rattle.emerge_choose.specs.declared.fault.NotChosen.TheVariants as choosing
use Rattle.emerge_choose.specs.declared.reason.NotTaken.{NotTaken}

-- of what was tried in vain something is open
pub tried_are_open : (update : Bool) (u : Universe) (cs : List Choice) → AreHopeless update u cs → (c : Choice) → Has cs c → first_open u c ≢ None
tried_are_open update u cs hopeless c has = λ none. cc (subst (λ (o : Option Obligation). option_map (tried_for update u c) o ≡ Some []) none (hopeless c has))

-- a second plan behind a first one that is refused
pub second_refused : (installed offered : List Package) (fine level : List GroupValue) (f : NotAccepted) → AreRefused installed offered fine → Breaks installed offered level f → NoneAccepted installed offered fine level (not_accepted f)
second_refused installed offered fine level (accepting.Unlinked fault) refused breaks = (level, inr (refused, refl), breaks)
second_refused installed offered fine level (accepting.Refused fault) refused breaks = (refused, breaks)
second_refused installed offered fine level accepting.Memory refused breaks = tt

-- the two plans of the first good choice
module _ (installed offered : List Package) (update : Bool) (limit : ℕ) (u : Universe) (c : Choice) (served : first_unserved u ≡ None) (first : IsChosen update u limit c) where
  of_first : (Holds : Choice → Type 0) → Holds c → OfFirst update limit u Holds
  of_first Holds holds = record { served = served; choice = c; chosen = first; holds = holds }

  pub not_grouped : (hidden : List NotTaken) (f : NotArranged) → HasNoPlan u c f → Tells installed offered hidden update limit u (not_arranged f)
  not_grouped hidden (arranging.BuildCycle packages) none = of_first (λ d. HasNoPlan u d (arranging.BuildCycle packages)) none
  not_grouped hidden arranging.Limit none = of_first (λ d. HasNoPlan u d arranging.Limit) none
  not_grouped hidden arranging.Memory none = tt

  module _ (fine level : List GroupValue) (is_fine : IsFine installed u c fine) (is_level : IsLevel installed u c level) where
    plan_of : (groups : List GroupValue) → AreTried installed offered fine level groups → IsPlanOf installed offered u c groups
    plan_of groups (inl same) = inl (subst (λ (gs : List GroupValue). IsFine installed u c gs) (sym same) is_fine)
    plan_of groups (inr tried) = inr (record {
      fine = fine;
      is_fine = is_fine;
      refused = tried.0;
      level = subst (λ (gs : List GroupValue). IsLevel installed u c gs) (sym tried.1) is_level;
    })

    pub chosen_plan : (chosen : Chosen) → IsFirstAccepted installed offered fine level chosen → IsChosenPlan installed offered update limit u chosen
    chosen_plan chosen is = record {
      of_universe = record {
        served = served;
        choice = c;
        chosen = first;
        plan = plan_of (plan_value chosen.text) is.tried;
        form = is.form;
      };
      good = is.good;
    }

    pub not_planned : (hidden : List NotTaken) (e : NotChosen) → NoneAccepted installed offered fine level e → Tells installed offered hidden update limit u e
    not_planned hidden (choosing.Unlinked fault) none = record {
      served = served;
      choice = c;
      chosen = first;
      holds = (none.0, plan_of none.0 none.1, none.2);
    }
    not_planned hidden (choosing.NoOrder fault) none = record {
      served = served;
      choice = c;
      chosen = first;
      holds = (level, record { fine = fine; is_fine = is_fine; refused = none.0; level = is_level }, none.1);
    }
    not_planned hidden choosing.Memory none = tt
    not_planned hidden e none = absurd none

-- what is told of the universe of a wish is told of the wish
pub told_over : (installed variants offered : List Package) (hidden : List NotTaken) (wish : WishValue) (update : Bool) (u : Universe) (r : Result Chosen NotChosen) → IsUniverse installed variants wish u → update ≡ wish.update → IfErr r (Tells installed offered hidden update wish.limit u) → IfErr r (λ e. e ≢ choosing.Memory → Over installed variants wish (λ v. Tells installed offered hidden wish.update wish.limit v e))
told_over installed variants offered hidden wish update u (Ok x) made same tells = tt
told_over installed variants offered hidden wish update u (Err e) made same tells = λ other. record {
  universe = u;
  made = made;
  holds = subst (λ (b : Bool). Tells installed offered hidden b wish.limit u e) same tells;
}
