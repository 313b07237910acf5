-- How a run ends that merges the groups of a plan, or nothing, and what it leaves of a disk whose
-- packages go together: such a disk. One plan, one list of images and turns stand for all moments.
use Rattle.std.specs.Prelude.{◌≡◌, ◌⊎◌, ℕ, List, [], Option, None, Some}
use Rattle.std.specs.List.{AllByRecursion}
use Rattle.build_pool.specs.declared.orders.Order.{Order}
use Rattle.file_tree.specs.Disk.{Disk, IsUntouched, Map}
use Rattle.file_tree.specs.Moments.{Leaves}
use Rattle.file_tree.specs.declared.objects.Entry.{Entry}
use Rattle.merge_journal.specs.Group as journal
use Rattle.merge_journal.specs.Recovered.{IsRecovered}
use Rattle.merge_site.specs.declared.group.SiteGroup.{SiteGroup}
use Rattle.owner_book.specs.Book.{Book}
use Rattle.plan_law.specs.Accepted.{IsAccepted}
use Rattle.plan_law.specs.Plans.{Group, WaitsForEarlier}
use Rattle.vdb_law.specs.Packages.{Installed}
use Rattle.law_commit.specs.Lit.{packages_of}
use Rattle.merge_group.specs.Applied.{AreOf, LeavesWith, ReadsWith, RecoversWith}
use Rattle.merge_group.specs.declared.turn.Turn.{Turn}
use Rattle.law_run.specs.Ends.{BeginsWith, IsImageOrAlike}
use Rattle.law_run.specs.Openings.{AreOwners}
use Rattle.run_files.specs.Laws.{CanBeRecorded}
use Rattle.run_turns.specs.Held.{HoldOwned, Holdings}
use Rattle.run_turns.specs.Plans.{AreSiteGroups, coming}
use Rattle.run_turns.specs.Turns.{AreTurns}
use Rattle.run_turns.specs.declared.job.Job.{Job}
use Rattle.run_plan.specs.Runs.{AreOfRun, numbers_at}
use Rattle.run_sound.specs.Sound.{AnyImage, HoldsAfterRun, IsPlanFor, LeavesSound}

-- the images that may be made for an order
abbrev pub Images : Type 1
Images = Order → List Entry → Type 0

-- these turns were made of a plan's groups, in the plan's order, over a map with these packages,
-- which are the book's owners; a site is opened for these groups
pub record AreMadeOver (Image : Images) (m : Map) (ps : List Installed) (plan : List Group)
    (jobs : List Job) (book : Book) (groups : List SiteGroup) (turns : List Turn) : Type 0 where
  pub owners : AreOwners m ps book
  pub opened_for : AreSiteGroups ps plan jobs groups
  pub held : Holdings
  pub owned : HoldOwned m ps plan held
  pub made : AreTurns Image ps plan jobs 0 held turns

-- Whatever groups come into a sound tree that are those of a run of an accepted plan, in whatever
-- order of it, and that make the changes of their turns, leave a sound tree, whatever the images.
abbrev pub RunsLeaveSoundTrees : Type 0
RunsLeaveSoundTrees =
    (flags : List (List ℕ)) (m : Map) (ps : List Installed) (plan : List Group)
    (jobs : List Job) (book : Book) (groups : List SiteGroup) (turns : List Turn)
    (xs : List journal.Group) →
    IsPlanFor flags m ps book plan → AreMadeOver AnyImage m ps plan jobs book groups turns →
    AreOfRun m book groups plan turns xs → LeavesSound flags ps plan m xs

-- what is made of a plan, over a map with these packages: the turns of its groups, with images for
-- what is ordered
pub record Making (Image : Images) (ps : List Installed) (plan : List Group) (jobs : List Job)
    (m : Map) : Type 0 where
  pub book : Book
  pub groups : List SiteGroup
  pub turns : List Turn
  pub is : AreMadeOver Image m ps plan jobs book groups turns

-- the groups of the journal of a run of the plan with the turns that were made of it; none, where
-- nothing was made
abbrev pub AreMade : {Image : Images} {ps : List Installed} {plan : List Group} {jobs : List Job}
    {m : Map} → Option (Making Image ps plan jobs m) → List journal.Group → Type 0
AreMade None xs = AreOf (λ x. ⊥) xs
AreMade {plan = plan} {m = m} (Some k) xs = AreOfRun m k.book k.groups plan k.turns xs

-- which plan a run merges into a map, over which packages, and with which jobs
abbrev pub Choice : Type 1
Choice = Map → List Installed → List Group → List Job → Type 0

-- what a run merges: the tree that recovery made of a map, the plan that was chosen there, and what
-- was made of it
pub record Course (Chooses : Choice) (Image : Images) (opening : Map) : Type 0 where
  pub tree : Map
  pub recovered : IsRecovered opening tree
  pub packages : List Installed
  pub plan : List Group
  pub jobs : List Job
  pub chosen : Chooses tree packages plan jobs
  pub made : Option (Making Image packages plan jobs tree)

-- something holds of the tree into which a run merges, and of the runs of its plan
abbrev pub HoldsOfRun : {Chooses : Choice} {Image : Images} {opening : Map} →
    Option (Course Chooses Image opening) → (Map → (List journal.Group → Type 0) → Type 0) → Type 0
HoldsOfRun None P = ⊥
HoldsOfRun (Some k) P = P k.tree (AreMade k.made)

-- a crash image recovers to what the disk recovered to, with a run of the plan, the groups with
-- these numbers among it; or no group is among them, and the disk is as it was to a recovery
abbrev pub IsReached : {Chooses : Choice} {Image : Images} (d : Disk) →
    Option (Course Chooses Image d.holds) → List ℕ → Map → Type 0
IsReached d course among c =
    ((among ≡ []) × IsImageOrAlike d c)
    ⊎ HoldsOfRun course (λ m Run. RecoversWith Run m among c)

-- a crash leaves what recovers to what the old disk recovered to, with a run of the plan that is
-- the history
abbrev pub LeavesGroups : {Chooses : Choice} {Image : Images} (old : Disk) →
    Option (Course Chooses Image old.holds) → List ℕ → Disk → Type 0
LeavesGroups old course history new =
    ((history ≡ []) × Leaves (IsImageOrAlike old) new)
    ⊎ HoldsOfRun course (λ m Run. LeavesWith Run m history new)

-- the disk reads as what recovery makes of the map, and a crash leaves just that
pub record IsRecoveredDisk (opening : Map) (d : Disk) : Type 0 where
  pub recovered : IsRecovered opening d.holds
  pub settled : IsUntouched d

-- the disk reads as what the old one recovered to, with a run of the plan that is the history, and
-- a crash leaves just that
abbrev pub HasGroups : {Chooses : Choice} {Image : Images} (old : Disk) →
    Option (Course Chooses Image old.holds) → List ℕ → Disk → Type 0
HasGroups old course history new =
    ((history ≡ []) × IsRecoveredDisk old.holds new)
    ⊎ HoldsOfRun course (λ m Run. ReadsWith Run m history new)

-- ---- sound runs

-- each group of the plan waits for earlier ones alone, the plan is accepted over the packages, and
-- what it brings can be recorded
pub record IsFitPlan (flags : List (List ℕ)) (ps : List Installed) (plan : List Group) :
    Type 0 where
  pub earlier : WaitsForEarlier plan
  pub accepted : IsAccepted plan (packages_of flags ps)
  pub recordable : AllByRecursion (CanBeRecorded flags) (coming plan)

-- whatever is chosen in this map is a wanted plan, over these packages, and fit
abbrev pub ChoosesPlans : List (List ℕ) → Choice → Map → List Installed →
    (List Group → Type 0) → Type 0
ChoosesPlans flags Chooses m ps Wants =
    (qs : List Installed) (plan : List Group) (jobs : List Job) → Chooses m qs plan jobs →
    (qs ≡ ps) × Wants plan × IsFitPlan flags ps plan

-- the plan that a run merges; where it merges nothing, one without groups
abbrev pub plan_of : {Chooses : Choice} {Image : Images} {opening : Map} →
    Option (Course Chooses Image opening) → List Group
plan_of None = []
plan_of (Some k) = k.plan

-- a disk is one that runs begin with, with the packages after a run of the plan that is the history
abbrev pub EndsSoundly : List (List ℕ) → List Installed → List Group → List ℕ → Disk → Type 0
EndsSoundly flags ps plan history d =
    HoldsAfterRun flags ps plan (λ run. history ≡ numbers_at run) (BeginsWith flags d d.holds)
