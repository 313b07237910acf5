-- The merge of a plan, from that of its groups at a site that was opened for them and then closed.
use Rattle.std.proofs.Common.{◌≡◌, ◌∙◌, ◌≤◌, ◌+◌, ℕ, Bool, List, [], Result, Some, IsTrue, ap, inr, length, subst, sym}
use Rattle.std.specs.Prelude.{IfErr, IsErrOf}
use Rattle.build_pool.specs.Pool.{PoolValue}
use Rattle.build_pool.specs.declared.builders.Builder.{Ghosts as Builder}
use Rattle.build_pool.specs.declared.orders.Order.{Order}
use Rattle.file_tree.specs.declared.objects.Entry.{Entry}
use Rattle.file_tree.specs.Disk.{CountsFault, Disk, Map, Rose, Story}
use Rattle.file_tree.proofs.Moments.{since_weaker}
use Rattle.file_tree.specs.declared.fault.TreeFault.TheVariants as causes
use Rattle.file_tree.specs.declared.traits.Sink.{Ghosts as Sink}
use Rattle.file_tree.specs.declared.traits.Tree.{Ghosts as Tree}
use Rattle.merge_site.specs.Site.{SiteValue}
use Rattle.plan_law.specs.Plans.{Group, WaitsForEarlier}
use Rattle.vdb_law.specs.Packages.{Installed}
use Rattle.merge_group.specs.Causes.{IsOfGroup}
use Rattle.merge_group.specs.Lines.{AreLines, line_in}
use Rattle.file_tree.specs.Output.{Wrote}
use Rattle.merge_group.specs.Runs.{IsOver, IsUnderWay}
use Rattle.merge_journal.specs.Group as journal
use Rattle.merge_group.specs.Applied.{LeavesWith, ReadsWith, RecoversWith}
use Rattle.merge_group.specs.Turns.{AreFirst, StopsBehind, numbers}
use Rattle.merge_group.specs.Went.{WentWith}
use Rattle.merge_group.specs.declared.stop.Stop.{Stop}
use Rattle.merge_group.specs.declared.stop.Stop.TheVariants as merges
use Rattle.merge_group.specs.declared.turn.Turn.{Turn}
use Rattle.merge_group.proofs.Left.{plain_behind}
use Rattle.merge_group.proofs.Through.{recovers_weaker}
use Rattle.merge_image.specs.Images.{IsBuilt, IsPastLimit}
use Rattle.build_pool.specs.Pool.{PoolRose}
use Rattle.run_turns.specs.Held.{holdings_of}
use Rattle.run_turns.specs.Plans.{line_for, orders_at}
use Rattle.run_plan.specs.Courses.{IsCourse, MergesGroups}
use Rattle.run_plan.specs.Ends.{ClosesAs}
use Rattle.run_plan.specs.Merges.{MergesPlan}
use Rattle.run_plan.specs.Runs.{AreOfRun, SaysBuild, merge_end, upto}
use Rattle.run_plan.specs.declared.merge.Merged.{Merged}
use Rattle.run_plan.specs.declared.merge.Task.{Task}
use Rattle.run_plan.specs.declared.preparing.Course.{Course}
use Rattle.run_plan.specs.declared.preparing.Progress.{Progress}
use Rattle.run_plan.specs.declared.stop.PlanStop.{PlanStop}
use Rattle.run_plan.specs.declared.stop.PlanStop.TheVariants as stops
use Rattle.run_plan.proofs.Beginnings.{first_are_run}
use Rattle.run_plan.proofs.Whole.{as_opened, begins_then, closed_cause, closed_fine, closed_ok, closed_stop, counts_closed, ended_told, fine_told, machine_for, one_more, output_before, same_lines}

-- runs of one kind are runs of another
module _ (Run Other : List journal.Group → Type 0) (so : (xs : List journal.Group) → Run xs → Other xs) where
  leaves_other : (m : Map) (history : List ℕ) (d : Disk) → LeavesWith Run m history d → LeavesWith Other m history d
  leaves_other m history d h = record { groups = h.groups; of = so h.groups h.of; are = h.are; each = h.each }

  reads_other : (m : Map) (history : List ℕ) (d : Disk) → ReadsWith Run m history d → ReadsWith Other m history d
  reads_other m history d h = record { groups = h.groups; of = so h.groups h.of; are = h.are; reads = h.reads; untouched = h.untouched }

  went_other : {A : Type 0} (old new : Story) (history : List ℕ) (end : Result A Stop) → WentWith Run old new history end → WentWith Other old new history end
  went_other old new history end went =
      let m = old.now.holds in
      record {
        moments = since_weaker (RecoversWith Run m []) (RecoversWith Other m []) (λ c r. recovers_weaker Run Other m [] c so r) old new went.moments;
        crash = λ c is. recovers_weaker Run Other m history c so (went.crash c is);
        left = λ healthy. leaves_other m history new.now (went.left healthy);
        tree = λ healthy fed. reads_other m history new.now (went.tree healthy fed);
      }

module _ {T S B : Type 0} (trees : Tree T) (sinks : Sink S) (builders : Builder B) (ps : List Installed) (plan : List Group) (task : Task) (start : T) (sink : S) (old pool : PoolValue B)
    (course : Course) (begun last : SiteValue T S) (progress : Progress) (before end : Result (Unit {0}) PlanStop) (tree : T) where
  abbrev closed : Merged T S
  closed = record {
    tree = tree;
    sink = last.sink;
    machine = Some last.keeping;
    end = end;
    history = progress.history;
    acknowledged = progress.acknowledged;
  }

  pub merges_plan : WaitsForEarlier plan → IsCourse trees.tells (trees.story start).now.holds ps plan task.jobs.items course
      → IsUnderWay trees.tells (trees.story start).now.holds [] [] [] begun → begun.opened ≡ start → begun.opened_book ≡ task.book → begun.groups ≡ course.groups.items → begun.tree ≡ start → begun.sink ≡ sink
      → MergesGroups trees sinks builders plan task.jobs.items course.places begun last old pool course.progress progress before
      → ((turns : List Turn) (history told : List ℕ) → IsOver trees.tells (trees.story last.opened).now.holds turns history told (merge_end tt before) last → IsTrue trees.tells
      → WentWith (AreFirst (trees.story last.opened).now.holds last.opened_book last.groups turns) (trees.story last.opened) (trees.story tree) history (merge_end tt end))
      → ClosesAs before end → trees.faults last.tree ≤ trees.faults tree
      → (IsErrOf end (stops.Merge (merges.Tree causes.Failed)) → (IsErrOf before (stops.Merge (merges.Tree causes.Failed)) → ⊥) → Rose (trees.faults last.tree) (trees.faults tree))
      → MergesPlan trees sinks builders ps plan task start sink old pool closed
  merges_plan earlier is under opened_as book_as groups_as tree_as sink_as e went closes count rose =
      let same = e.same in
      let ran = e.ran in
      let turns = ran.turns in
      let listed = course.groups.items in
      let jobs = task.jobs.items in
      let book = task.book in
      let history = progress.history.items in
      let told = progress.acknowledged.items in
      let all = upto (length plan) in
      let are = is.groups in
      let held = holdings_of course.progress.held in
      let Image : Order → List Entry → Type 0 = IsBuilt builders.tells builders.told old.resting in
      let Says : PlanStop → Type 0 = SaysBuild (IsPastLimit builders.tells builders.told old.resting) (PoolRose builders.faults old pool) (orders_at jobs (length history)) in
      let opened = same.opened ∙ opened_as in
      let opened_book = same.opened_book ∙ book_as in
      let groups = same.groups ∙ groups_as in
      let m = (trees.story start).now.holds in
      let over = subst (λ x. IsOver trees.tells (trees.story x).now.holds turns history told (merge_end tt before) last) (sym same.opened) ran.over in
      let cause = as_opened last start book listed (λ x b l. IfErr (merge_end tt before) (StopsBehind trees.tells (trees.story x).now.holds b l turns (length history))) opened opened_book groups over.cause in
      let P = StopsBehind trees.tells m book listed turns (length history) in
      let plain : (s : Stop) → (IsOfGroup s → ⊥) → P s = plain_behind trees.tells m book listed turns (length history) in
      let stopped = closed_cause P before end (λ of. plain (merges.Tree of) (λ group. group)) closes cause in
      let first = begins_then all (numbers turns) history ran.are.numbered ran.over.first in
      let device = subst (λ x. CountsFault (IsErrOf before (stops.Merge (merges.Tree causes.Failed))) (trees.faults x) (trees.faults last.tree)) tree_as e.device in
      let output = subst (λ x. CountsFault (IsErrOf before (stops.Merge merges.Output)) (sinks.faults x) (sinks.faults last.sink)) sink_as e.output in
      let lines = ap line_in groups_as ∙ same_lines ps plan jobs listed are in
      let rows : length last.keeping.standings ≡ length plan + 1 = same.count ∙ (sym under.count ∙ (ap length groups_as ∙ one_more ps plan jobs listed are)) in
      record {
        answer = record {
          first = first;
          kept = ran.over.kept;
          all_told = closed_cause (λ s. IsOfGroup s → told ≡ history) before end (λ of group. absurd group) closes ran.over.all_told;
          so_far = closed_fine (told ≡ history) before end closes (fine_told before told history (numbers turns) ran.over.told ran.over.merged);
          merged = closed_ok (history ≡ all) before end closes e.merged;
          told = closed_ok (told ≡ all) before end closes (ended_told before told history (numbers turns) all ran.over.told ran.over.merged e.merged);
          build = closed_stop Says before end (λ of. tt) closes e.build;
          device = counts_closed before end (trees.faults start) (trees.faults last.tree) (trees.faults tree) device count rose;
          output = record { later = output.later; rose = λ failed. output.rose (output_before before end closes failed) };
        };
        tree = λ t.
            let made = ran.are.made ps is.places in
            let first_went = as_opened last start book listed (λ x b l. WentWith (AreFirst (trees.story x).now.holds b l turns) (trees.story x) (trees.story tree) history (merge_end tt end)) opened opened_book groups
            (went turns history told over t) in
            inr (record {
              groups = listed;
              turns = turns;
              order = first;
              opened_for = are;
              held = held;
              owned = is.held t;
              made = made;
              went = went_other (AreFirst m book listed turns) (AreOfRun m book listed plan turns) (first_are_run Image ps plan jobs held m book listed turns earlier made) (trees.story start) (trees.story tree) history (merge_end tt end) first_went;
              cause = subst (λ (b : Bool). IfErr (merge_end tt end) (StopsBehind b m book listed turns (length history))) t stopped;
            });
        written = λ st.
            let wrote = subst (λ (line : ℕ → List ℕ). Wrote (AreLines (Rose (sinks.faults begun.sink) (sinks.faults last.sink)) line history told) (sinks.written begun.sink) (sinks.written last.sink)) lines (e.written st) in
            subst (λ x. Wrote (AreLines (Rose (sinks.faults x) (sinks.faults last.sink)) (line_for jobs) history told) (sinks.written x) (sinks.written last.sink)) sink_as wrote;
        back = record {
          machine = machine_for last all (numbers turns) history (length plan + 1) ran.are.numbered ran.over.order rows ran.over.rest;
          unasked = λ none. absurd (cc none);
          ids = e.ids;
          lent = e.lent;
          builds = e.builds;
        };
      }
