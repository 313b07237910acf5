-- When the claims of a plan's groups are good: what is asked of one group where it is claimed.
use Rattle.std.specs.Prelude.{◌≡◌, ℕ, Bool, true, false, List, [], ◌∷◌, map, ⊤}
use Rattle.basics.specs.Members.{Has}
use Rattle.file_tree.specs.Disk.{Map, Story}
use Rattle.file_tree.specs.Paths.{is_below}
use Rattle.merge_journal.specs.Group.{applied, covers}
use Rattle.merge_core.specs.Event.{Claim, Event, answered}
use Rattle.merge_core.specs.Phase.{Claimed, GatePut, Open, Phase}
use Rattle.merge_core.specs.Roll.{Machine, Roll, idle, phase_at}
use Rattle.merge_core.specs.Runs.{AllWait}
use Rattle.merge_core.specs.Trail.{Entry, Happens, IsAtRest, machine_after}
use Rattle.vdb_law.specs.Database.{folder_name}
use Rattle.vdb_law.specs.Packages.{Installed, paths}
use Rattle.vdb_law.specs.Step.{AreSteps, Change, HaveOwnFolders, IsStep}
use Rattle.plan_law.specs.Plans as plans
use Rattle.law_commit.specs.Crashes.{AreStepsAllAlong, IsPlanned, Merges, SoundTrail}

-- the change may be made now: it is a step over the map and its packages, and what it brings has
-- folders of its own
pub record MayCome (m : Map) (ps : List Installed) (c : Change) : Type 0 where
  pub step : IsStep m ps c.gone c.added c.does
  pub own : HaveOwnFolders ps c.gone c.added

-- two changes over these packages have nothing to do with one another
pub record AreBeside (ps : List Installed) (c d : Change) : Type 0 where
  -- no package leaves with both, and neither takes away what the other brings
  pub leaves : (p : Installed) → Has ps p → c.gone p ≡ true → ¬ (d.gone p ≡ true)
  pub first_stays : (p : Installed) → Has c.added p → d.gone p ≡ false
  pub second_stays : (p : Installed) → Has d.added p → c.gone p ≡ false
  -- no path is changed by both
  pub paths_apart : (q : List ℕ) → covers c.does q ≡ true → ¬ (covers d.does q ≡ true)
  -- what they bring has other folders, and no path above or below one of the other's
  pub folders_apart : (p r : Installed) → Has c.added p → Has d.added r →
      ¬ (folder_name p ≡ folder_name r)
  pub flat : (p r : Installed) (q s : List ℕ) → Has c.added p → Has d.added r →
      Has (paths p) q → Has (paths r) s → (is_below q s ≡ false) × (is_below s q ≡ false)

-- a group whose claim was granted, and which isn't settled yet
abbrev pub is_granted : Phase → Bool
is_granted Claimed = true
is_granted GatePut = true
is_granted Open = true
is_granted p = false

-- the numbers of the settled groups, in the order in which they came into the tree
abbrev pub settled_numbers : Roll → List ℕ
settled_numbers r = map (λ g. g.content.group) r.order

-- a claim is granted to a group whose change may come now, over the settled groups, and that has
-- nothing to do with those of the groups whose claims were granted before
abbrev pub IsGoodClaim : Map → (ℕ → Change) → List Installed → Roll → ℕ → Type 0
IsGoodClaim opening change ps r g =
    (now : List Installed) → AreSteps (map change (settled_numbers r)) opening ps now →
    MayCome (applied opening r.order) now (change g)
    × ((h : ℕ) → is_granted (phase_at r h) ≡ true → AreBeside now (change g) (change h))

-- only good claims are granted
abbrev pub GrantsWell : Map → (ℕ → Change) → List Installed → Machine → Event → Bool → Type 0
GrantsWell opening change ps m (Claim g) true = IsGoodClaim opening change ps m.roll g
GrantsWell opening change ps m e ok = ⊤

-- .. at each event of a run
abbrev pub GrantsWellAllAlong : Map → (ℕ → Change) → List Installed → Machine → List Entry → Type 0
GrantsWellAllAlong opening change ps m [] = ⊤
GrantsWellAllAlong opening change ps m (e ∷ es) =
    GrantsWell opening change ps m e.0 e.1 ×
    GrantsWellAllAlong opening change ps (answered m e.0 e.1) es

-- Where only good claims are granted, what a crash commits at any moment are steps one after
-- another, in whatever order the groups come.
abbrev pub GoodClaimsSuffice : Type 0
GoodClaimsSuffice =
    (flags : List (List ℕ)) (plan : List plans.Group) (change : ℕ → Change) (opening : Map)
    (ps : List Installed) (old new : Story) (es : List Entry) →
    IsPlanned flags plan change opening ps → IsAtRest opening old.now → Happens idle old es new →
    Merges (machine_after idle es).roll plan change →
    GrantsWellAllAlong opening change ps idle es →
    AreStepsAllAlong opening change ps idle es

-- The headline over definitions. From a kept tree at rest, for an accepted plan over its packages,
-- while the machine merges the plan by events in any order in which groups wait, answered in any
-- way, and grants only good claims: each crash image of each moment recovers to the opening after a
-- run of the plan, a kept tree whose packages are consistent, with each group in it that was
-- settled when that moment's event began, and none whose gate was never put.
abbrev pub MergesRecoverSoundly : Type 0
MergesRecoverSoundly =
    (flags : List (List ℕ)) (plan : List plans.Group) (change : ℕ → Change) (opening : Map)
    (ps : List Installed) (old new : Story) (es : List Entry) →
    IsPlanned flags plan change opening ps → IsAtRest opening old.now → Happens idle old es new →
    AllWait (λ g. (plans.group_at plan g).after) idle es →
    Merges (machine_after idle es).roll plan change →
    GrantsWellAllAlong opening change ps idle es →
    SoundTrail flags opening plan change idle old es new
