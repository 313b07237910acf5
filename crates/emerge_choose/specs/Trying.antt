-- Two plans, of which the check is asked in turn.
use Rattle.std.specs.Prelude.{◌≡◌, ◌⊎◌, List, Some, ⊤}
use Rattle.pkg_state.specs.Package.{Package}
use Rattle.plan_text.specs.Plans.{GroupValue, plan_value}
use Rattle.plan_text.specs.Texts.{IsPlan}
use Rattle.plan_model.specs.Accepting.{IsGood, IsRefused}
use Rattle.plan_model.specs.Faults.{link_rule}
use Rattle.emerge_choose.specs.Plans.{AreRefused}
use Rattle.emerge_choose.specs.declared.chosen.Chosen.{Chosen}
use Rattle.emerge_choose.specs.declared.fault.NotChosen.{NotChosen}
use Rattle.emerge_choose.specs.declared.fault.NotChosen.TheVariants.{Memory, NoOrder, Unlinked}

-- the groups are those of the first plan, or, where the check refuses it, of the second one
abbrev pub AreTried : List Package → List Package → List GroupValue → List GroupValue →
    List GroupValue → Type 0
AreTried installed offered fine level groups =
    (groups ≡ fine) ⊎ (AreRefused installed offered fine × (groups ≡ level))

-- so they are, and they are accepted
pub record IsFirstAccepted (installed offered : List Package) (fine level : List GroupValue)
    (chosen : Chosen) : Type 0 where
  pub tried : AreTried installed offered fine level (plan_value chosen.text)
  pub form : IsPlan (plan_value chosen.text)
  pub good : IsGood installed offered (plan_value chosen.text) chosen.plan

-- neither plan is accepted, for this reason; want of memory says nothing
abbrev pub NoneAccepted : List Package → List Package → List GroupValue → List GroupValue →
    NotChosen → Type 0
NoneAccepted installed offered fine level (Unlinked fault) =
    (groups : List GroupValue) × AreTried installed offered fine level groups
    × link_rule offered groups (Some fault)
NoneAccepted installed offered fine level (NoOrder fault) =
    AreRefused installed offered fine × IsRefused installed offered level fault
NoneAccepted installed offered fine level Memory = ⊤
NoneAccepted installed offered fine level e = ⊥
