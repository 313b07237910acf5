-- What a command promises of all that it gives back, from its words on, whatever it answers.
use Rattle.std.specs.Prelude.{◌≡◌, ◌⊎◌, ℕ, Bool, true, List, [], IfSome, IsTrue, MatchOption, None, length, map}
use Rattle.build_pool.specs.Pool.{PoolValue, PoolRose, SameIds}
use Rattle.build_pool.specs.declared.builders.Builder.{Ghosts as Builder}
use Rattle.dep_atom.specs.declared.package.PackageId.{PackageId}
use Rattle.emerge_words.specs.declared.request.WordFault.{WordFault}
use Rattle.file_tree.specs.Disk.{CountsFault, Map}
use Rattle.file_tree.specs.declared.traits.Sink.{Ghosts as Sink}
use Rattle.file_tree.specs.declared.traits.Tree.{Ghosts as Tree}
use Rattle.merge_group.specs.Applied.{number}
use Rattle.merge_group.specs.Lines.{AreTold}
use Rattle.file_tree.specs.Output.{IsBeginning, Wrote}
use Rattle.merge_image.specs.Images.{IsBuilt}
use Rattle.run_plan.specs.Runs.{upto}
use Rattle.run_sound.specs.Ends.{Images}
use Rattle.emerge_run.specs.Answers.{Asks}
use Rattle.emerge_run.specs.Openings.{AreInstalledAfter, GivesBack, HasPlan, HasTooMuchAfter, IsUnread}
use Rattle.emerge_run.specs.Outcomes.{IsPlanOf, IsRefusal, IsTold, Outcome}
use Rattle.emerge_run.specs.Output.{IsWritten}
use Rattle.emerge_run.specs.Words.{AskForMerge, AskToMerge, IsOfWords, IsUsage}
use Rattle.emerge_run.specs.declared.run.Ended.{Ended}
use Rattle.merge_report.specs.declared.status.Status.TheVariants as status

-- A command, by these words: what its run was lent, and what it gives back, once its last line is
-- written or before that.
module _ {T S B : Type 0} (trees : Tree T) (sinks : Sink S) (builders : Builder B) (last : Bool)
    (words : List (List ℕ)) (start : T) (out : S) (pool : PoolValue B)
    (run : Ended T S (PoolValue B)) where
  -- what the tree held as it was handed in
  abbrev before : Map
  before = (trees.story start).now.holds

  abbrev Image : Images
  Image = IsBuilt builders.tells builders.told pool.resting

  -- The answer is the one that the words, the tree and the images ask for. The history is first
  -- groups of the plan that comes back, since they are merged in its order. Ok tells how many
  -- groups the history has, and all of them are acknowledged; so are those of any history where the
  -- answer tells why there is no more, and else its last one may not be. Each answer but want of
  -- memory has its cause, and each failure was counted.
  pub record AnswersCommand : Type 0 where
    pub asked : IsTrue trees.tells → Asks words before Image run.history.items run.status
    pub first : IfSome run.plan (λ p. IsBeginning (upto (length p)) run.history.items)
    pub ok : (n : ℕ) → run.status ≡ status.Ok n →
        (n ≡ length run.history.items) × (run.acknowledged.items ≡ run.history.items)
    pub refused : IsRefusal run.status → run.history.items ≡ []
    pub kept : AreTold run.history.items run.acknowledged.items
    pub told : IsTold run.status → run.acknowledged.items ≡ run.history.items
    pub usage : (f : WordFault) → run.status ≡ status.Usage f → IsUsage words f
    pub no_merge : ¬ AskForMerge words → IsOfWords run.status
        ⊎ ((run.status ≡ status.Memory) ⊎ ((last ≡ true) × (run.status ≡ status.OutputFault)))
    pub build : (id : PackageId) → run.status ≡ status.BuildFailed id →
        PoolRose builders.faults pool run.pool
    pub device : CountsFault (run.status ≡ status.DeviceFault) (trees.faults start)
        (trees.faults run.tree)
    pub output : CountsFault (run.status ≡ status.OutputFault) (sinks.faults out)
        (sinks.faults run.out)

  -- What was installed comes back where it was read, and so does the plan that was accepted; both,
  -- whatever is answered, once a merge has begun. The history is the order of the machine, which is
  -- there where a merge began: only where the words ask for one that is done. Else no builder was
  -- asked. The pool has the builders that it had, and none is lent that wasn't.
  pub record GivesBackAll : Type 0 where
    pub begun : IsTrue trees.tells →
        (run.machine ≡ None) ⊎ AreInstalledAfter before run.opening.items
    pub opening : IsTrue trees.tells → GivesBack (AreInstalledAfter before)
        (HasTooMuchAfter before) run.status run.opening.items
    pub unread : IsUnread run.status → run.opening.items ≡ []
    pub plan : IsTrue trees.tells → IfSome run.plan (IsPlanOf words before)
    pub planned : HasPlan run.status → ¬ (run.plan ≡ None)
    pub merging : (run.machine ≡ None) ⊎ ¬ (run.plan ≡ None)
    pub machine : MatchOption run.machine (run.history.items ≡ [])
        (λ k. run.history.items ≡ map number k.order)
    pub asked : (run.machine ≡ None) ⊎ AskToMerge words
    pub unasked : run.machine ≡ None → run.pool ≡ pool
    pub ids : SameIds builders.number pool run.pool
    pub lent : run.pool.lent ≡ pool.lent

  -- What it answers, what a crash leaves and the tree holds, what is written, and what comes back.
  -- Written are the lines of the acknowledged groups and some beginning of those of the other
  -- groups, or the plan that is shown; and then the last line. Only where the output failed is
  -- anything cut.
  pub record RunsCommand : Type 0 where
    pub answer : AnswersCommand
    pub tree : IsTrue trees.tells → Outcome words Image run.plan (trees.story start)
        (trees.story run.tree) run.history.items run.status
    pub written : IsTrue sinks.tells → Wrote (IsWritten last
        (sinks.faults out) (sinks.faults run.out) words trees.tells before
        (λ s. IsTrue trees.tells → Asks words before Image run.history.items s)
        run.history.items run.acknowledged.items run.status)
        (sinks.written out) (sinks.written run.out)
    pub back : GivesBackAll
