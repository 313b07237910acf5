-- What the groups of an accepted plan leave of a sound tree, in whatever order of a run they come
-- into it: such a tree.
use Rattle.std.specs.Prelude.{◌≡◌, ℕ, List, [], ◌∷◌, IsErrOf, Result, map, ⊤}
use Rattle.std.specs.List.{AllByRecursion}
use Rattle.basics.specs.Members.{Has}
use Rattle.build_pool.specs.declared.orders.Order.{Order}
use Rattle.file_tree.specs.Disk.{Map, Story}
use Rattle.file_tree.specs.Moments.{Leaves, Since}
use Rattle.file_tree.specs.declared.fault.TreeFault.TheVariants as trees
use Rattle.file_tree.specs.declared.objects.Entry.{Entry}
use Rattle.merge_journal.specs.Group as journal
use Rattle.merge_journal.specs.Group.{applied}
use Rattle.recovery.specs.Promise.{RecoversTo}
use Rattle.owner_book.specs.Book.{Book}
use Rattle.plan_law.specs.Accepted.{IsAccepted}
use Rattle.plan_law.specs.Plans.{Group, IsRun, WaitsForEarlier, group_at}
use Rattle.vdb_law.specs.Packages.{Installed}
use Rattle.vdb_law.specs.Step.{IsAfter}
use Rattle.law_commit.specs.Commits.{IsSoundTree}
use Rattle.law_commit.specs.Lit.{packages_of}
use Rattle.merge_group.specs.Applied.{number}
use Rattle.merge_group.specs.declared.stop.Stop.{Stop}
use Rattle.merge_group.specs.declared.stop.Stop.TheVariants as stops
use Rattle.law_run.specs.Openings.{AreOwners}
use Rattle.run_files.specs.Laws.{CanBeRecorded}
use Rattle.run_files.specs.Made.{leaves}
use Rattle.run_turns.specs.Plans.{coming}
use Rattle.run_turns.specs.declared.job.Job.{Job}
use Rattle.run_plan.specs.Runs.{WentFor, numbers_at}

-- the map is a sound tree with these packages, which are the book's owners; the plan is accepted
-- over them, each of its groups waits for earlier ones alone, and what it brings can be recorded
pub record IsPlanFor (flags : List (List ℕ)) (m : Map) (ps : List Installed) (book : Book)
    (plan : List Group) : Type 0 where
  pub sound : IsSoundTree flags m ps
  pub owners : AreOwners m ps book
  pub earlier : WaitsForEarlier plan
  pub accepted : IsAccepted plan (packages_of flags ps)
  pub recordable : AllByRecursion (CanBeRecorded flags) (coming plan)

-- recovery makes of a map a sound tree with these packages
pub record RecoversSoundly (flags : List (List ℕ)) (c : Map) (ps : List Installed) : Type 0 where
  pub tree : Map
  pub recovers : RecoversTo c tree
  pub sound : IsSoundTree flags tree ps

-- something holds of the packages that these are after the group
abbrev pub HoldsAfterGroup : List (List ℕ) → List Installed → Group →
    (List Installed → Type 0) → Type 0
HoldsAfterGroup flags ps g P = (added : List Installed) × (packages_of flags added ≡ g.additions)
    × ((qs : List Installed) × IsAfter ps (leaves g) added qs × P qs)

-- something holds of the packages that these are after the groups, one after another
abbrev pub HoldsAfterGroups : List (List ℕ) → List Installed → List Group →
    (List Installed → Type 0) → Type 0
HoldsAfterGroups flags ps [] P = P ps
HoldsAfterGroups flags ps (g ∷ gs) P =
    HoldsAfterGroup flags ps g (λ qs. HoldsAfterGroups flags qs gs P)

-- a run of the plan is such, and something holds of the packages that these are after its groups
pub record HoldsAfterRun (flags : List (List ℕ)) (ps : List Installed) (plan : List Group)
    (Such : List ℕ → Type 0) (P : List Installed → Type 0) : Type 0 where
  pub run : List ℕ
  pub is_run : IsRun plan run
  pub such : Such run
  pub holds : HoldsAfterGroups flags ps (map (group_at plan) run) P

-- a run has the groups of these numbers, and others maybe
abbrev pub HasNumbers : List ℕ → List ℕ → Type 0
HasNumbers numbers run = (n : ℕ) → Has numbers n → Has (numbers_at run) n

-- the map with these groups is a sound tree: with the packages after a run of the plan, whose
-- groups they are
abbrev pub LeavesSound : List (List ℕ) → List Installed → List Group → Map →
    List journal.Group → Type 0
LeavesSound flags ps plan m xs =
    HoldsAfterRun flags ps plan (λ run. map number xs ≡ numbers_at run)
    (IsSoundTree flags (applied m xs))

-- a crash image recovers to a sound tree: with the packages after a run of the plan, these groups
-- among it
abbrev pub StaysSound : List (List ℕ) → List Installed → List Group → List ℕ → Map → Type 0
StaysSound flags ps plan among c =
    HoldsAfterRun flags ps plan (HasNumbers among) (RecoversSoundly flags c)

-- whatever a crash leaves at any moment recovers so, and at the end so with the history; unless the
-- device failed or memory ran out the tree is sound at the end, with the packages after a run of
-- the plan that is the history
pub record IsSoundRun {A : Type 0} (flags : List (List ℕ)) (ps : List Installed)
    (plan : List Group) (old new : Story) (history : List ℕ) (end : Result A Stop) :
    Type 0 where
  pub moments : Since (StaysSound flags ps plan []) old new
  pub crash : Leaves (StaysSound flags ps plan history) new.now
  pub tree : ¬ IsErrOf end (stops.Tree trees.Failed) → ¬ IsErrOf end (stops.Tree trees.Memory) →
      HoldsAfterRun flags ps plan (λ run. history ≡ numbers_at run)
      (IsSoundTree flags new.now.holds)

-- an image for an order, whatever it is
abbrev pub AnyImage : Order → List Entry → Type 0
AnyImage order image = ⊤

-- The run of such a plan is so, whatever the images.
abbrev pub PlanRunsAreSound : Type 0
PlanRunsAreSound =
    (flags : List (List ℕ)) (book : Book) (ps : List Installed) (plan : List Group)
    (jobs : List Job) (old new : Story) (history : List ℕ) (end : Result ⊤ Stop) →
    IsPlanFor flags old.now.holds ps book plan →
    WentFor AnyImage book ps plan jobs old new history end →
    IsSoundRun flags ps plan old new history end
