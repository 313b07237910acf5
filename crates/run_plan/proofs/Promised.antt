-- What the merge of a plan promises, where it never began, and where its tree was read before.
use Rattle.std.proofs.Common.{◌≡◌, ◌∙◌, ◌≤◌, ◌+◌, ◌∷◌, ℕ, List, [], Option, None, Err, IsTrue, ap, append-nil, arith, inl, refl, subst, sym, take}
use Rattle.std.specs.Prelude.{MatchOption, length}
use Rattle.build_pool.specs.Pool.{PoolValue, faults_of, id_times}
use Rattle.build_pool.specs.declared.builders.Builder.{Ghosts as Builder}
use Rattle.file_tree.specs.Disk.{CountsFault, Story}
use Rattle.file_tree.specs.declared.fault.TreeFault.{TreeFault}
use Rattle.file_tree.specs.declared.fault.TreeFault.TheVariants as trees_faults
use Rattle.file_tree.specs.declared.traits.Sink.{Ghosts as Sink}
use Rattle.file_tree.specs.declared.traits.Tree.{Ghosts as Tree}
use Rattle.merge_journal.specs.Group as journal
use Rattle.merge_core.specs.CoreValue.{CoreValue}
use Rattle.merge_core.specs.Trail.{IsAtRest}
use Rattle.plan_law.specs.Plans.{Group}
use Rattle.vdb_law.specs.Packages.{Installed}
use Rattle.file_tree.specs.Output.{IsBeginning}
use Rattle.merge_group.specs.declared.stop.Stop.TheVariants as merges
use Rattle.merge_group.specs.Went.{HaveRun}
use Rattle.merge_group.proofs.Rising.{rose_earlier}
use Rattle.merge_group.proofs.Told.{lines_none}
use Rattle.merge_image.specs.Images.{IsBuilt, IsPastLimit}
use Rattle.build_pool.specs.Pool.{PoolRose}
use Rattle.run_turns.specs.Plans.{line_for, orders_at}
use Rattle.run_plan.specs.Merges.{MergesPlan}
use Rattle.run_plan.specs.Runs.{SaysBuild, WentFor, merge_end, upto}
use Rattle.run_plan.specs.declared.merge.Merged.{Merged}
use Rattle.run_plan.specs.declared.merge.Task.{Task}
use Rattle.run_plan.specs.declared.stop.PlanStop.TheVariants as stops
use Rattle.run_plan.proofs.Unmade.{went_unmade}
use Rattle.run_plan.proofs.Whole.{unmerged_build, unmerged_failed, unmerged_fine, unmerged_ok, unmerged_plain, unmerged_quiet, unmerged_told}

nothing_first : (whole : List ℕ) → [] ≡ take 0 whole
nothing_first [] = refl
nothing_first (x ∷ xs) = refl

pub nothing_begins : (whole text : List ℕ) → text ≡ [] → IsBeginning whole text
nothing_begins whole text none = (0, none ∙ nothing_first whole)

-- a value that is as it was has counted nothing, and fails for nothing
pub counted_none : {T : Type 0} (faults : T → ℕ) (old new : T) (P : Type 0) → new ≡ old → (P → ⊥) → CountsFault P (faults old) (faults new)
counted_none faults old new P same none = record { later = subst (λ x. faults old ≤ faults x) (sym same) (omega arith); rose = λ p. absurd (none p) }

module _ {T S B : Type 0} (trees : Tree T) (sinks : Sink S) (builders : Builder B) (installed : List Installed) (plan : List Group) (task : Task) (tree : T) (sink : S) (old new : PoolValue B) (run : Merged T S) where
  -- the tree was only read before the merge of it began
  pub read_before : (mid : T) → (IsTrue trees.tells → trees.story mid ≡ trees.story tree) → trees.faults tree ≤ trees.faults mid
      → MergesPlan trees sinks builders installed plan task mid sink old new run → MergesPlan trees sinks builders installed plan task tree sink old new run
  read_before mid same before ran =
      let later = ran.answer.device.later in
      record {
        answer = record {
          first = ran.answer.first;
          kept = ran.answer.kept;
          all_told = ran.answer.all_told;
          so_far = ran.answer.so_far;
          merged = ran.answer.merged;
          told = ran.answer.told;
          build = ran.answer.build;
          device = record { later = omega (arith, before, later); rose = λ failed. rose_earlier (trees.faults tree) (trees.faults mid) (trees.faults run.tree) before (ran.answer.device.rose failed) };
          output = ran.answer.output;
        };
        tree = λ t. subst (λ (s : Story). WentFor (IsBuilt builders.tells builders.told old.resting) task.book installed plan task.jobs.items s (trees.story run.tree) run.history.items (merge_end tt run.end)) (same t) (ran.tree t);
        written = ran.written;
        back = record { machine = ran.back.machine; unasked = ran.back.unasked; ids = ran.back.ids; lent = ran.back.lent; builds = ran.back.builds };
      }

  -- the merge never began, for a fault of the tree
  pub never_began : (f : TreeFault) → (IsTrue trees.tells → IsAtRest (trees.story tree).now.holds (trees.story tree).now) → (IsTrue trees.tells → trees.story run.tree ≡ trees.story tree)
      → CountsFault (f ≡ trees_faults.Failed) (trees.faults tree) (trees.faults run.tree) → run.sink ≡ sink → new ≡ old → run.machine ≡ None → run.end ≡ Err (stops.Merge (merges.Tree f)) → run.history.items ≡ [] → run.acknowledged.items ≡ []
      → MergesPlan trees sinks builders installed plan task tree sink old new run
  never_began f rest same counts sink_is pool_is no_machine end_is none untold =
      let history = run.history.items in
      let told = run.acknowledged.items in
      record {
        answer = record {
          first = nothing_begins (upto (length plan)) history none;
          kept = inl (untold ∙ sym none);
          all_told = unmerged_told f run.end end_is (told ≡ history);
          so_far = unmerged_fine f run.end end_is (told ≡ history);
          merged = unmerged_ok f run.end end_is (history ≡ upto (length plan));
          told = unmerged_ok f run.end end_is (told ≡ upto (length plan));
          build = unmerged_build f run.end end_is (SaysBuild (IsPastLimit builders.tells builders.told old.resting) (PoolRose builders.faults old new) (orders_at task.jobs.items (length history))) tt;
          device = record { later = counts.later; rose = λ failed. counts.rose (unmerged_failed f run.end end_is failed) };
          output = record { later = subst (λ (x : S). sinks.faults sink ≤ sinks.faults x) (sym sink_is) (omega arith); rose = λ failed. absurd (unmerged_quiet f run.end end_is failed) };
        };
        tree = λ t. inl (
          went_unmade f (λ (x : journal.Group). ⊥) (trees.story tree) (trees.story run.tree) history (merge_end tt run.end) (rest t) (same t) none (ap (merge_end tt) end_is),
          unmerged_plain f run.end end_is,
        );
        written = λ t. ([], lines_none _ (line_for task.jobs.items) history told untold, ap sinks.written sink_is ∙ sym (append-nil _));
        back = record {
          machine = subst (λ (k : Option CoreValue). MatchOption k (history ≡ []) (HaveRun (upto (length plan)) (length plan + 1) history)) (sym no_machine) none;
          unasked = λ e. pool_is;
          ids = λ n. ap (id_times builders.number n) pool_is;
          lent = ap (λ (p : PoolValue B). p.lent) pool_is;
          builds = subst (λ (p : PoolValue B). faults_of builders.faults old ≤ faults_of builders.faults p) (sym pool_is) (omega arith);
        };
      }
