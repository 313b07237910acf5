-- What a crash leaves while the groups of a plan are merged.
use Rattle.std.specs.Prelude.{◌≡◌, ◌<◌, ℕ, true, List, [], ◌∷◌, length, map, ⊤}
use Rattle.basics.specs.Members.{Has}
use Rattle.file_tree.specs.Disk.{Disk, IsImage, Map, Story}
use Rattle.file_tree.specs.Moments.{Since}
use Rattle.merge_journal.specs.Recovered.{IsRecovered}
use Rattle.merge_journal.specs.Group.{applied}
use Rattle.merge_core.specs.Order.{IsFirm, IsListed}
use Rattle.merge_core.specs.Phase.{is_settled, was_opened}
use Rattle.merge_core.specs.Event.{answered, begun}
use Rattle.merge_core.specs.Roll.{Machine, Roll, RecoversCommitted, committed, group_at, idle, phase_at}
use Rattle.merge_core.specs.Runs.{AllWait, IsFollowing}
use Rattle.merge_core.specs.Trail.{Entry, Happens, IsAtRest, machine_after}
use Rattle.vdb_law.specs.Database.{IsDatabase, IsKept}
use Rattle.vdb_law.specs.Packages.{Installed}
use Rattle.vdb_law.specs.Step.{AreSteps, Change, groups_of}
use Rattle.plan_law.specs.Accepted.{IsAccepted}
use Rattle.plan_law.specs.Plans as plans
use Rattle.law_commit.specs.Commits.{AreOf, IsSoundTree}
use Rattle.law_commit.specs.Lit.{packages_of}

-- a plan over the packages of a kept tree: it is accepted, and each of its groups has a change
pub record IsPlanned (flags : List (List ℕ)) (plan : List plans.Group) (change : ℕ → Change)
    (opening : Map) (ps : List Installed) : Type 0 where
  pub earlier : plans.WaitsForEarlier plan
  pub accepted : IsAccepted plan (packages_of flags ps)
  pub changes : AreOf flags plan change
  pub database : IsDatabase opening ps
  pub kept : IsKept opening ps

-- the machine merges the plan: a group begins behind all that it waits for; one whose gate was put
-- is one of the plan's, and does what its change does
pub record Merges (r : Roll) (plan : List plans.Group) (change : ℕ → Change) : Type 0 where
  pub follows : IsFollowing (λ g. (plans.group_at plan g).after) r
  pub there : (g : ℕ) → was_opened (phase_at r g) ≡ true → g < length plan
  pub does : (g : ℕ) → was_opened (phase_at r g) ≡ true → (change g).does ≡ group_at r g

-- the gate of each of the groups was put
abbrev pub AreOpened : Roll → List ℕ → Type 0
AreOpened r run = (g : ℕ) → Has run g → was_opened (phase_at r g) ≡ true

-- the groups that a crash that leaves this map doesn't undo, by their numbers
abbrev pub committed_numbers : Roll → Map → List ℕ
committed_numbers r c = map (λ g. g.content.group) (committed r c)

-- whatever a crash leaves: the changes of what it commits, in the order in which they come into the
-- tree, are steps one after another
abbrev pub AreStepsCommitted : Map → Roll → (ℕ → Change) → List Installed → Type 0
AreStepsCommitted opening r change ps =
    (c : Map) → RecoversCommitted opening r c →
    (qs : List Installed) × AreSteps (map change (committed_numbers r c)) opening ps qs

-- the map recovers to a sound tree: the opening after a run of the plan, with each settled group in
-- it and none whose gate was never put
pub record RecoversSoundly (flags : List (List ℕ)) (opening : Map) (r : Roll)
    (plan : List plans.Group) (change : ℕ → Change) (c : Map) : Type 0 where
  pub run : List ℕ
  pub is_run : plans.IsRun plan run
  pub settled : (g : ℕ) → is_settled (phase_at r g) ≡ true → Has run g
  pub opened : AreOpened r run
  pub recovers : IsRecovered c (applied opening (groups_of (map change run)))
  pub database : List Installed
  pub sound : IsSoundTree flags (applied opening (groups_of (map change run))) database

-- whatever a crash leaves while the machine and the disk are in order
abbrev pub CrashesRecoverSoundly : Type 0
CrashesRecoverSoundly =
    (flags : List (List ℕ)) (plan : List plans.Group) (change : ℕ → Change) (opening : Map)
    (ps : List Installed) (r : Roll) (d : Disk) (c : Map) →
    IsPlanned flags plan change opening ps → IsFirm opening r d → IsListed r →
    Merges r plan change → AreStepsCommitted opening r change ps → IsImage d c →
    RecoversSoundly flags opening r plan change c

-- the changes are such steps at each moment of the run
abbrev pub AreStepsAllAlong : Map → (ℕ → Change) → List Installed → Machine → List Entry → Type 0
AreStepsAllAlong opening change ps m [] = ⊤
AreStepsAllAlong opening change ps m (e ∷ es) =
    AreStepsCommitted opening (begun m e.0).roll change ps ×
    AreStepsAllAlong opening change ps (answered m e.0 e.1) es

-- each crash image of each moment of the run recovers soundly, with each group in it that was
-- settled when that moment's event began
abbrev pub SoundTrail : List (List ℕ) → Map → List plans.Group → (ℕ → Change) → Machine →
    Story → List Entry → Story → Type 0
SoundTrail flags opening plan change m old [] new = new ≡ old
SoundTrail flags opening plan change m old (e ∷ es) new =
    (mid : Story) × Since (RecoversSoundly flags opening (begun m e.0).roll plan change) old mid ×
    SoundTrail flags opening plan change (answered m e.0 e.1) mid es new

-- Whatever a crash leaves at any moment, also within a write, while the machine merges the plan
-- from a tree at rest: its events come in any order in which groups wait, answered in any way. An
-- event that the crash cut off is the last of the list.
abbrev pub EachMomentRecoversSoundly : Type 0
EachMomentRecoversSoundly =
    (flags : List (List ℕ)) (plan : List plans.Group) (change : ℕ → Change) (opening : Map)
    (ps : List Installed) (old new : Story) (es : List Entry) →
    IsPlanned flags plan change opening ps → IsAtRest opening old.now → Happens idle old es new →
    AllWait (λ g. (plans.group_at plan g).after) idle es →
    Merges (machine_after idle es).roll plan change →
    AreStepsAllAlong opening change ps idle es →
    SoundTrail flags opening plan change idle old es new
