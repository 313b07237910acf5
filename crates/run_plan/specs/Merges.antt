-- What the merge of a plan promises of all that it gives back, whatever its end is.
use Rattle.std.specs.Prelude.{◌≡◌, ◌≤◌, ◌+◌, [], IfErr, IsErrOf, IsTrue, List, MatchOption, None, OnOk, length}
use Rattle.build_pool.specs.Pool.{PoolValue, PoolRose, SameIds, faults_of}
use Rattle.build_pool.specs.declared.builders.Builder.{Ghosts as Builder}
use Rattle.file_tree.specs.Disk.{CountsFault, Rose}
use Rattle.file_tree.specs.declared.fault.TreeFault.TheVariants as causes
use Rattle.file_tree.specs.declared.traits.Sink.{Ghosts as Sink}
use Rattle.file_tree.specs.declared.traits.Tree.{Ghosts as Tree}
use Rattle.plan_law.specs.Plans.{Group}
use Rattle.vdb_law.specs.Packages.{Installed}
use Rattle.merge_group.specs.Causes.{IsOfGroup}
use Rattle.merge_group.specs.Lines.{AreLines, AreTold}
use Rattle.file_tree.specs.Output.{IsBeginning, Wrote}
use Rattle.merge_group.specs.Went.{HaveRun}
use Rattle.merge_group.specs.declared.stop.Stop.TheVariants as merges
use Rattle.merge_image.specs.Images.{IsBuilt, IsPastLimit}
use Rattle.run_turns.specs.Plans.{line_for, orders_at}
use Rattle.run_plan.specs.Runs.{SaysBuild, WentFor, merge_end, upto}
use Rattle.run_plan.specs.declared.merge.Merged.{Merged}
use Rattle.run_plan.specs.declared.merge.Task.{Task}
use Rattle.run_plan.specs.declared.stop.PlanStop.TheVariants as stops

-- a plan is merged into a tree where these packages are installed; its run took these, and gave
-- back these
module _ {T S B : Type 0} (trees : Tree T) (sinks : Sink S) (builders : Builder B)
    (installed : List Installed) (plan : List Group) (task : Task) (start : T) (sink : S)
    (old new : PoolValue B) (run : Merged T S) where
  -- The history is first groups of the plan, and all of them where the end is Ok. Its groups are
  -- told, or all but its last one; all of them unless the device, the output or memory ended the
  -- run. An end for a build names a package of the next group, and each failure was counted.
  pub record EndsPlan : Type 0 where
    pub first : IsBeginning (upto (length plan)) run.history.items
    pub kept : AreTold run.history.items run.acknowledged.items
    pub all_told : IfErr (merge_end tt run.end)
        (λ s. IsOfGroup s → run.acknowledged.items ≡ run.history.items)
    pub so_far : OnOk (merge_end tt run.end) (run.acknowledged.items ≡ run.history.items)
    pub merged : OnOk run.end (run.history.items ≡ upto (length plan))
    pub told : OnOk run.end (run.acknowledged.items ≡ upto (length plan))
    pub build : IfErr run.end (SaysBuild (IsPastLimit builders.tells builders.told old.resting)
        (PoolRose builders.faults old new)
        (orders_at task.jobs.items (length run.history.items)))
    pub device : CountsFault (IsErrOf run.end (stops.Merge (merges.Tree causes.Failed)))
        (trees.faults start) (trees.faults run.tree)
    pub output : CountsFault (IsErrOf run.end (stops.Merge merges.Output)) (sinks.faults sink)
        (sinks.faults run.sink)

  -- The machine comes back where the merge began, with the history as its order; else no builder
  -- was asked. The pool has the builders that it had, and none is lent that wasn't.
  pub record GivesBackPlan : Type 0 where
    pub machine : MatchOption run.machine (run.history.items ≡ [])
        (HaveRun (upto (length plan)) (length plan + 1) run.history.items)
    pub unasked : run.machine ≡ None → new ≡ old
    pub ids : SameIds builders.number old new
    pub lent : new.lent ≡ old.lent
    pub builds : faults_of builders.faults old ≤ faults_of builders.faults new

  -- what it answers, what a crash leaves and the tree holds, what is written, and what comes back
  pub record MergesPlan : Type 0 where
    pub answer : EndsPlan
    pub tree : IsTrue trees.tells → WentFor (IsBuilt builders.tells builders.told old.resting)
        task.book installed plan task.jobs.items (trees.story start) (trees.story run.tree)
        run.history.items (merge_end tt run.end)
    pub written : IsTrue sinks.tells → Wrote
        (AreLines (Rose (sinks.faults sink) (sinks.faults run.sink)) (line_for task.jobs.items)
        run.history.items run.acknowledged.items)
        (sinks.written sink) (sinks.written run.sink)
    pub back : GivesBackPlan
