-- The runs of a plan as they come into a tree, how the groups of a plan are merged one after
-- another, which is such a run, and why that is stopped.
use Rattle.std.specs.Prelude.{◌≡◌, ◌⊎◌, ℕ, zero, suc, List, [], ◌∷◌, ◌++◌, Ok, Err, IfErr, Result, length}
use Rattle.std.specs.Prelude.{Some, map, slice_get, true, ⊤}
use Rattle.std.specs.List.{AllZip}
use Rattle.basics.specs.Members.{Has}
use Rattle.build_pool.specs.declared.orders.Order.{Order}
use Rattle.dep_atom.specs.declared.package.PackageId.{PackageId}
use Rattle.file_tree.specs.Disk.{Map, Story}
use Rattle.file_tree.specs.declared.fault.TreeFault.TheVariants as trees
use Rattle.file_tree.specs.declared.objects.Entry.{Entry}
use Rattle.merge_journal.specs.Group as journal
use Rattle.owner_book.specs.Book.{Book}
use Rattle.merge_site.specs.declared.group.SiteGroup.{SiteGroup}
use Rattle.plan_law.specs.Plans.{Group, IsRun}
use Rattle.vdb_law.specs.Packages.{Installed}
use Rattle.merge_group.specs.Causes.{IsOfGroup}
use Rattle.file_tree.specs.Output.{IsBeginning}
use Rattle.merge_group.specs.Turns.{AreLetIn, StopsBehind, group_for}
use Rattle.merge_group.specs.Went.{Went, WentWith}
use Rattle.merge_group.specs.declared.stop.Stop.{Stop}
use Rattle.merge_group.specs.declared.stop.Stop.TheVariants as merges
use Rattle.merge_group.specs.declared.turn.Turn.{Turn}
use Rattle.run_turns.specs.Held.{HoldOwned, Holdings}
use Rattle.run_turns.specs.Plans.{AreSiteGroups}
use Rattle.run_turns.specs.Turns.{AreTurns}
use Rattle.run_turns.specs.declared.job.Job.{Job}
use Rattle.run_plan.specs.declared.stop.PlanStop.{PlanStop}
use Rattle.run_plan.specs.declared.stop.PlanStop.TheVariants as stops

-- the numbers of the groups at these places of the plan
abbrev pub numbers_at : List ℕ → List ℕ
numbers_at run = map (λ g. suc g) run

-- of the turns of a plan's groups, in the plan's order, these are the ones of the groups at these
-- places
abbrev pub AreTurnsAt : List Turn → List ℕ → List Turn → Type 0
AreTurnsAt turns run own = AllZip (λ g t. slice_get turns g ≡ Some t) run own

-- These groups of the journal are those of a run of the plan, in its order: each group once, and
-- behind all that it waits for. Each makes the changes of its turn, and its claim is granted over
-- the map and the owners that those before it in the run left.
pub record AreOfRun (m : Map) (b : Book) (groups : List SiteGroup) (plan : List Group)
    (turns : List Turn) (xs : List journal.Group) : Type 0 where
  pub run : List ℕ
  pub is_run : IsRun plan run
  pub own : List Turn
  pub turns_are : AreTurnsAt turns run own
  pub are : xs ≡ map group_for own
  pub let_in : AreLetIn m b groups own

-- the numbers of so many groups
abbrev pub upto : ℕ → List ℕ
upto zero = []
upto (suc n) = upto n ++ suc n ∷ []

-- a stop of the merge: one of a build stops no group that was begun
abbrev pub merge_end : {A : Type 0} → A → Result A PlanStop → Result A Stop
merge_end fine (Ok x) = Ok x
merge_end fine (Err (stops.Merge s)) = Err s
merge_end fine (Err (stops.Build id)) = Ok fine
merge_end fine (Err (stops.Image id)) = Ok fine

-- the package is one of those that are ordered
abbrev pub IsOrdered : List Order → PackageId → (Order → Type 0) → Type 0
IsOrdered orders id P = (o : Order) × Has orders o × (o.id ≡ id) × P o

-- why the image for this order isn't there
abbrev pub StopsOrder : (Many : Order → Type 0) → (Failed : Type 0) → Order → PlanStop → Type 0
StopsOrder Many Failed order (stops.Merge s) = s ≡ merges.Tree trees.Memory
StopsOrder Many Failed order (stops.Build id) = (order.id ≡ id) × Failed
StopsOrder Many Failed order (stops.Image id) = (order.id ≡ id) × Many order

-- why images for these orders aren't there
abbrev pub StopsBuild : (Many : Order → Type 0) → (Failed : Type 0) → List Order → PlanStop → Type 0
StopsBuild Many Failed orders (stops.Merge s) = s ≡ merges.Tree trees.Memory
StopsBuild Many Failed orders (stops.Build id) = IsOrdered orders id (λ o. Failed)
StopsBuild Many Failed orders (stops.Image id) = IsOrdered orders id Many

-- .. where it is that
abbrev pub SaysBuild : (Many : Order → Type 0) → (Failed : Type 0) → List Order → PlanStop → Type 0
SaysBuild Many Failed orders (stops.Merge s) = ⊤
SaysBuild Many Failed orders e = StopsBuild Many Failed orders e

-- What is in the tree at any moment is a run of the plan, with turns that were made of it. Its
-- groups were merged in the plan's order; where that was stopped, the next group was so, over what
-- the history left.
pub record WentOn {A : Type 0} (Image : Order → List Entry → Type 0) (book : Book)
    (ps : List Installed) (plan : List Group) (jobs : List Job) (old new : Story)
    (history : List ℕ) (end : Result A Stop) : Type 0 where
  pub groups : List SiteGroup
  pub turns : List Turn
  pub order : IsBeginning (upto (length plan)) history
  pub opened_for : AreSiteGroups ps plan jobs groups
  pub held : Holdings
  pub owned : HoldOwned old.now.holds ps plan held
  pub made : AreTurns Image ps plan jobs 0 held turns
  pub went : WentWith (AreOfRun old.now.holds book groups plan turns) old new history end
  pub cause : IfErr end (StopsBehind true old.now.holds book groups turns (length history))

-- how the run of a plan went: nothing came in, and no group was stopped; or so
abbrev pub WentFor : {A : Type 0} → (Order → List Entry → Type 0) → Book → List Installed →
    List Group → List Job → Story → Story → List ℕ → Result A Stop → Type 0
WentFor Image book ps plan jobs old new history end =
    (Went (λ x. ⊥) old new history end × IfErr end (λ s. ¬ IsOfGroup s))
    ⊎ WentOn Image book ps plan jobs old new history end
