-- How the turns of a plan's run went, before its journal is cleared.
use Rattle.std.specs.Prelude.{◌≡◌, ◌≤◌, ℕ, suc, Bool, List, [], ◌∷◌, IfErr, IsErrOf, IsTrue, OnOk, Result, length, ⊤}
use Rattle.build_pool.specs.Pool.{PoolValue, PoolRose, SameIds, faults_of}
use Rattle.build_pool.specs.declared.builders.Builder.{Ghosts as Builder}
use Rattle.build_pool.specs.declared.orders.Order.{Order}
use Rattle.file_tree.specs.Disk.{CountsFault, Map, Rose}
use Rattle.file_tree.specs.declared.fault.TreeFault.TheVariants as causes
use Rattle.file_tree.specs.declared.objects.Entry.{Entry}
use Rattle.file_tree.specs.declared.traits.Sink.{Ghosts as Sink}
use Rattle.file_tree.specs.declared.traits.Tree.{Ghosts as Tree}
use Rattle.merge_site.specs.Site.{SiteValue, IsSameSite}
use Rattle.plan_law.specs.Plans.{Group, group_at}
use Rattle.vdb_law.specs.Packages.{Installed}
use Rattle.merge_group.specs.Lines.{AreLines, line_in}
use Rattle.file_tree.specs.Output.{IsBeginning, Wrote}
use Rattle.merge_group.specs.Runs.{IsOver, IsUnderWay}
use Rattle.merge_group.specs.Through.{HasRoom}
use Rattle.merge_group.specs.Turns.{numbers}
use Rattle.merge_group.specs.declared.stop.Stop.{Stop}
use Rattle.merge_group.specs.declared.stop.Stop.TheVariants as merges
use Rattle.merge_group.specs.declared.turn.Turn.{Turn}
use Rattle.run_files.specs.Keys.{folders_with}
use Rattle.run_files.specs.Places.{ArePlaces}
use Rattle.run_files.specs.declared.newcomer.Newcomer.{Newcomer}
use Rattle.run_files.specs.declared.places.Places.{Places}
use Rattle.merge_image.specs.Images.{IsBuilt, IsPastLimit}
use Rattle.run_turns.specs.Held.{HoldOwned, Holdings, holding_all, holdings_of}
use Rattle.run_turns.specs.Plans.{AreSiteGroups, coming, orders_at}
use Rattle.run_turns.specs.Turns.{AreNewcomersAt, AreTurns, IsTurnOf}
use Rattle.run_turns.specs.declared.job.Job.{Job}
use Rattle.run_plan.specs.Runs.{SaysBuild, merge_end, upto}
use Rattle.run_plan.specs.declared.preparing.Course.{Course}
use Rattle.run_plan.specs.declared.preparing.Progress.{Progress}
use Rattle.run_plan.specs.declared.stop.PlanStop.{PlanStop}
use Rattle.run_plan.specs.declared.stop.PlanStop.TheVariants as stops

-- this is what the run of a plan takes, over a map with these packages: the places of its packages,
-- what its site is opened for, what is held of those that go, and room for all of its groups
pub record IsCourse (tells : Bool) (m : Map) (ps : List Installed) (plan : List Group)
    (jobs : List Job) (course : Course) : Type 0 where
  pub places : ArePlaces (folders_with ps (coming plan)) course.places
  pub groups : AreSiteGroups ps plan jobs course.groups.items
  pub held : IsTrue tells → HoldOwned m ps plan (holdings_of course.progress.held)
  pub history : course.progress.history.items ≡ []
  pub acknowledged : course.progress.acknowledged.items ≡ []
  pub room : HasRoom (length plan) course.progress.history
  pub more : HasRoom (length plan) course.progress.acknowledged

-- these turns are those of the first groups of the plan, for any packages whose places these are
pub record AreMade (Image : Order → List Entry → Type 0) (plan : List Group) (jobs : List Job)
    (places : Places) (held : Holdings) (turns : List Turn) : Type 0 where
  pub numbered : IsBeginning (upto (length plan)) (numbers turns)
  pub made : (ps : List Installed) → ArePlaces (folders_with ps (coming plan)) places →
      AreTurns Image ps plan jobs 0 held turns

-- the run ended so with turns that were made of the plan
pub record RanPlan {T S : Type 0} (Image : Order → List Entry → Type 0) (plan : List Group)
    (jobs : List Job) (places : Places) (held : Holdings) (tells : Bool) (opening : Map)
    (history acknowledged : List ℕ) (end : Result ⊤ Stop) (a : SiteValue T S) :
    Type 0 where
  pub turns : List Turn
  pub are : AreMade Image plan jobs places held turns
  pub over : IsOver tells opening turns history acknowledged end a

-- the groups of a plan are merged one after another at a site, with images of the pool; these were
-- so before, and these so behind the last group or the first stop
module _ {T S B : Type 0} (trees : Tree T) (sinks : Sink S) (builders : Builder B)
    (plan : List Group) (jobs : List Job) (places : Places) (old new : SiteValue T S)
    (asked left : PoolValue B) (start last : Progress) (end : Result ⊤ PlanStop) where
  -- The turns are those of first groups of the plan, of all where the end is Ok, and their lines
  -- are written. An end for a build names a package of the next group, and each failure was
  -- counted. The pool has the builders that it had, and none is lent that wasn't.
  pub record MergesGroups : Type 0 where
    pub same : IsSameSite old new
    pub ran : RanPlan (IsBuilt builders.tells builders.told asked.resting) plan jobs places
        (holdings_of start.held) trees.tells (trees.story old.opened).now.holds
        last.history.items last.acknowledged.items (merge_end tt end) new
    pub merged : OnOk end (last.history.items ≡ upto (length plan))
    pub written : IsTrue sinks.tells → Wrote
        (AreLines (Rose (sinks.faults old.sink) (sinks.faults new.sink)) (line_in old.groups)
        last.history.items last.acknowledged.items)
        (sinks.written old.sink) (sinks.written new.sink)
    pub build : IfErr end (SaysBuild (IsPastLimit builders.tells builders.told asked.resting)
        (PoolRose builders.faults asked left) (orders_at jobs (length last.history.items)))
    pub ids : SameIds builders.number asked left
    pub lent : left.lent ≡ asked.lent
    pub builds : faults_of builders.faults asked ≤ faults_of builders.faults left
    pub device : CountsFault (IsErrOf end (stops.Merge (merges.Tree causes.Failed)))
        (trees.faults old.tree) (trees.faults new.tree)
    pub output : CountsFault (IsErrOf end (stops.Merge merges.Output))
        (sinks.faults old.sink) (sinks.faults new.sink)

-- the turns are those of the groups from a place on, and behind them these paths are held
abbrev pub AreTurnsTo : (Order → List Entry → Type 0) → List Installed → List Group → List Job →
    ℕ → Holdings → List Turn → Holdings → Type 0
AreTurnsTo Image ps plan jobs place held [] last = last ≡ held
AreTurnsTo Image ps plan jobs place held (t ∷ ts) last = (t.group ≡ suc place)
    × ((newcomers : List Newcomer) × AreNewcomersAt Image plan jobs place newcomers
    × IsTurnOf ps plan (group_at plan place) held newcomers t
    × AreTurnsTo Image ps plan jobs (suc place) (holding_all newcomers t.packages.items held) ts
    last)

-- a run has merged just the groups before this place
pub record IsUpTo {T S : Type 0} (Image : Order → List Entry → Type 0) (plan : List Group)
    (jobs : List Job) (places : Places) (held : Holdings) (tells : Bool) (opening : Map)
    (place : ℕ) (now : Holdings) (history acknowledged : List ℕ) (a : SiteValue T S) : Type 0 where
  pub turns : List Turn
  pub under : IsUnderWay tells opening turns history acknowledged a
  pub numbered : numbers turns ≡ upto place
  pub made : (ps : List Installed) → ArePlaces (folders_with ps (coming plan)) places →
      AreTurnsTo Image ps plan jobs 0 held turns now
