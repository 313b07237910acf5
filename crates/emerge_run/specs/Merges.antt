-- What the merge of the plan that a run has found promises, whatever it answers.
use Rattle.std.specs.Prelude.{◌≡◌, ℕ, List, [], IsTrue, MatchOption, None, length, map}
use Rattle.build_pool.specs.Pool.{PoolValue, PoolRose, SameIds}
use Rattle.build_pool.specs.declared.builders.Builder.{Ghosts as Builder}
use Rattle.dep_atom.specs.declared.package.PackageId.{PackageId}
use Rattle.file_tree.specs.Disk.{CountsFault, Rose}
use Rattle.file_tree.specs.declared.traits.Sink.{Ghosts as Sink}
use Rattle.file_tree.specs.declared.traits.Tree.{Ghosts as Tree}
use Rattle.vdb_law.specs.Packages.{Installed}
use Rattle.merge_group.specs.Applied.{number}
use Rattle.merge_group.specs.Lines.{AreLines, AreTold}
use Rattle.file_tree.specs.Output.{IsBeginning, Wrote}
use Rattle.merge_image.specs.Images.{IsBuilt}
use Rattle.plan_law.specs.Plans.{Group}
use Rattle.run_plan.specs.Runs.{upto}
use Rattle.run_plan.specs.declared.merge.Task.{Task}
use Rattle.run_sound.specs.Ends.{Images}
use Rattle.emerge_run.specs.Answers.{AsksMerge}
use Rattle.emerge_run.specs.Builds.{line_of}
use Rattle.emerge_run.specs.Outcomes.{IsOfMerge, IsTold, MergedTo}
use Rattle.emerge_run.specs.declared.run.Ended.{Ended}
use Rattle.merge_report.specs.declared.status.Status.TheVariants as status

-- the groups of a plan are merged, with its task, into a tree where these packages are installed;
-- the merge took these, and gave back these
module _ {T S B : Type 0} (trees : Tree T) (sinks : Sink S) (builders : Builder B)
    (installed : List Installed) (groups : List Group) (task : Task) (start : T) (out : S)
    (pool : PoolValue B) (run : Ended T S (PoolValue B)) where
  abbrev Image : Images
  Image = IsBuilt builders.tells builders.told pool.resting

  -- The answer is the one that the groups ask for. The history is first ones of them. Ok tells how
  -- many there are; all of the history is told unless the device, the output or memory ended the
  -- merge, and then all but its last group may be. Each failure was counted.
  pub record AnswersMerge : Type 0 where
    pub asked : IsTrue trees.tells → AsksMerge Image installed groups task.jobs.items
        (trees.story start).now.holds run.history.items run.status
    pub first : IsBeginning (upto (length groups)) run.history.items
    pub of : IsOfMerge run.status
    pub ok : (n : ℕ) → run.status ≡ status.Ok n →
        (n ≡ length run.history.items) × (run.acknowledged.items ≡ run.history.items)
    pub kept : AreTold run.history.items run.acknowledged.items
    pub told : IsTold run.status → run.acknowledged.items ≡ run.history.items
    pub build : (id : PackageId) → run.status ≡ status.BuildFailed id →
        PoolRose builders.faults pool run.pool
    pub device : CountsFault (run.status ≡ status.DeviceFault) (trees.faults start)
        (trees.faults run.tree)
    pub output : CountsFault (run.status ≡ status.OutputFault) (sinks.faults out)
        (sinks.faults run.out)

  -- The packages and the plan come back, and the machine with the history as its order; without
  -- one no builder was asked. The pool has the builders that it had, and none is lent that wasn't.
  pub record GivesBackMerge : Type 0 where
    pub opening : run.opening.items ≡ installed
    pub plan : MatchOption run.plan ⊥ (λ p. p ≡ groups)
    pub machine : MatchOption run.machine (run.history.items ≡ [])
        (λ k. run.history.items ≡ map number k.order)
    pub unasked : run.machine ≡ None → run.pool ≡ pool
    pub ids : SameIds builders.number pool run.pool
    pub lent : run.pool.lent ≡ pool.lent

  -- what it answers, what a crash leaves and the tree holds, what is written, and what comes back
  pub record MergesTask : Type 0 where
    pub answer : AnswersMerge
    pub tree : IsTrue trees.tells → MergedTo Image installed groups task.jobs.items
        (trees.story start) (trees.story run.tree) run.history.items run.status
    pub written : IsTrue sinks.tells →
        Wrote (AreLines (Rose (sinks.faults out) (sinks.faults run.out)) (line_of groups)
        run.history.items run.acknowledged.items) (sinks.written out) (sinks.written run.out)
    pub back : GivesBackMerge
