-- How the promise of each layer comes of that of the layer below.
use Rattle.std.proofs.Common.{◌≡◌, ◌⊎◌, ◌∙◌, ◌≤◌, ◌+◌, ℕ, true, false, List, [], Option, None, Some, Result, Ok, Err, IsTrue, MatchOption, ap, arith, inl, inr, length, map, refl, subst, sym}
use Rattle.std.specs.Prelude.{IfSome, String, Vec, string_bytes}
use Rattle.std.specs.Global.{Global}
use Rattle.build_pool.specs.Pool.{PoolValue, PoolRose}
use Rattle.build_pool.specs.declared.builders.Builder.{Ghosts as Builder}
use Rattle.dep_atom.specs.declared.package.PackageId.{PackageId}
use Rattle.emerge_words.specs.declared.request.WordFault.{WordFault}
use Rattle.file_tree.specs.Disk.{CountsFault, Map, Rose, Story}
use Rattle.file_tree.specs.Moments.{Since}
use Rattle.file_tree.specs.declared.fault.TreeFault.TheVariants as causes
use Rattle.file_tree.specs.declared.limits.Quantity.TheVariants.{Paths}
use Rattle.file_tree.specs.declared.traits.Sink.{Ghosts as Sink}
use Rattle.file_tree.specs.declared.traits.Tree.{Ghosts as Tree}
use Rattle.vdb_law.specs.Packages.{Installed}
use Rattle.merge_core.specs.CoreValue.{CoreValue}
use Rattle.merge_group.specs.Applied.{number}
use Rattle.file_tree.specs.Output.{IsBeginning, Wrote}
use Rattle.merge_group.specs.Went.{HaveRun}
use Rattle.merge_group.proofs.Rising.{rose_earlier, rose_later}
use Rattle.merge_image.specs.Images.{IsBuilt, IsPastLimit}
use Rattle.run_opening.specs.Faults as openings
use Rattle.emerge_find.specs.Choices.{IsFound}
use Rattle.emerge_find.specs.declared.asked.Asked.{Asked}
use Rattle.emerge_find.specs.declared.found.Found.{Found}
use Rattle.plan_law.specs.Plans.{Group}
use Rattle.run_turns.specs.Plans.{orders_at}
use Rattle.run_plan.specs.Merges.{MergesPlan}
use Rattle.run_plan.specs.Runs.{upto}
use Rattle.run_plan.proofs.Promised.{nothing_begins}
use Rattle.run_plan.specs.declared.merge.Merged.{Merged}
use Rattle.run_plan.specs.declared.merge.Task.{Task}
use Rattle.run_sound.specs.Ends.{HasGroups, Images}
use Rattle.recovery.specs.Promise as promises
use Rattle.recovery.specs.Promise.{IsFaultOf}
use Rattle.recovery.specs.declared.fault.RecoverFault.{RecoverFault}
use Rattle.recovery.specs.declared.fault.RecoverFault.TheVariants as recovery
use Rattle.law_run.specs.Ends.{IsImageOrAlike}
use Rattle.law_run.specs.Openings.{AreOwners}
use Rattle.emerge_run.specs.Answers.{Asks, IsRefused}
use Rattle.emerge_run.specs.Choosing.{ChoosesWork, FindsWork}
use Rattle.emerge_run.specs.Collisions.{ids_with}
use Rattle.emerge_run.specs.Commands.{RunsCommand}
use Rattle.emerge_run.specs.Merges.{MergesTask}
use Rattle.emerge_run.specs.Openings.{AreInstalled, AreInstalledAfter, GivesBack, HasPlan, HasRead, HasTooMuchAfter, IsUnread}
use Rattle.emerge_run.specs.Outcomes.{EndsEarly, HasRecovered, IsEarly, IsNamed, IsOfMerge, IsOfTree, IsPlanOf, IsRefusal, IsTold, IsToDo, KeepsJournal}
use Rattle.emerge_run.specs.Output.{IsCut, IsSaid}
use Rattle.emerge_run.specs.Package.{IsTask}
use Rattle.emerge_run.specs.Refusals.{IsStatusOf}
use Rattle.emerge_run.specs.Tasks.{IsPrepared}
use Rattle.emerge_run.specs.Words.{AskForMerge, EndsAtWords, IsOfWords, IsRequest, IsUsage}
use Rattle.emerge_run.specs.declared.choosing.Seen.{Seen}
use Rattle.emerge_run.specs.declared.choosing.Work.{Work}
use Rattle.emerge_run.specs.declared.choosing.Work.TheVariants as work
use Rattle.emerge_run.specs.declared.run.Ended.{Ended}
use Rattle.merge_report.specs.Faults.{status_of_recovery}
use Rattle.merge_report.specs.Last.{IsEnd}
use Rattle.merge_report.specs.declared.status.Status.{Status}
use Rattle.merge_report.specs.declared.status.Status.TheVariants as status
use Rattle.emerge_run.proofs.Endings.{Comes, early_no_plan, early_recovery, early_words, ends_at_recovery, ends_at_words, merge_not_refused, merge_not_unread, outcome_merged, outcome_rest, outcome_shown, outcome_unfound, recovered_same, recovery_failed, usage_recovery, words_or_memory}
use Rattle.emerge_run.proofs.Found.{asked_prepared, asks_of, ended_after, named_after, task_after, task_prepared, todo_after}
use Rattle.emerge_run.proofs.Givens.{beside_work, gives_after, gives_all, gives_none, is_there, plan_beside, plan_in, recovery_no_paths, recovery_not_read, words_no_paths, words_not_read}
use Rattle.emerge_run.proofs.Lines.{wrote_all, wrote_lines, wrote_merging, wrote_nothing, wrote_resting, wrote_showing}
use Rattle.emerge_run.proofs.Merged.{all_counted, asked_so, builds_end, device_ended, end_of_merge, failed_ended, merged_to, ok_ended, output_ended, told_ended}

-- ---- counts

-- a failure that is told for another one was counted with that
pub counts_for : (P Q : Type 0) (a b : ℕ) → (Q → P) → CountsFault P a b → CountsFault Q a b
counts_for P Q a b to counts = record { later = counts.later; rose = λ q. counts.rose (to q) }

-- .. and before other calls
counts_before : (P : Type 0) (a b d : ℕ) → a ≤ b → CountsFault P b d → CountsFault P a d
counts_before P a b d le counts = let later = counts.later in record { later = omega (arith, le, later); rose = λ p. rose_earlier a b d le (counts.rose p) }

-- the plan that comes back is this one
some_plan : (plan : List Group) (o : Option (List Group)) → MatchOption o ⊥ (λ p. p ≡ plan) → o ≡ Some plan
some_plan plan None is = absurd is
some_plan plan (Some p) is = ap Some is

-- without a history there are no first groups
first_none : (o : Option (List Group)) (history : List ℕ) → history ≡ [] → IfSome o (λ p. IsBeginning (upto (length p)) history)
first_none None history none = tt
first_none (Some p) history none = nothing_begins (upto (length p)) history none

-- a machine with this history has it as its order
machine_order : (N : Type 0) (gs history : List ℕ) (n : ℕ) (o : Option CoreValue) → MatchOption o N (HaveRun gs n history) → MatchOption o N (λ k. history ≡ map number k.order)
machine_order N gs history n None none = none
machine_order N gs history n (Some k) run = run.order

-- ---- the merge of a task, from that of its plan

module _ {T S B : Type 0} (trees : Tree T) (sinks : Sink S) (builders : Builder B) (opening : Vec Installed Global) (plan : List Group) (task : Task) (tree : T) (out : S) (pool new : PoolValue B) where
  pub merges_task : IsTask trees.tells (trees.story tree).now.holds opening.items plan task.jobs.items task.book → (r : Merged T S) (s : Status) → IsStatusOf (ids_with opening.items plan) (length plan) r.end s
      → MergesPlan trees sinks builders opening.items plan task tree out pool new r
      → MergesTask trees sinks builders opening.items plan task tree out pool
      (record { status = s; tree = r.tree; out = r.sink; pool = new; opening = opening; plan = Some plan; machine = r.machine; history = r.history; acknowledged = r.acknowledged })
  merges_task is_task r s is run =
      let ps = opening.items in
      let jobs = task.jobs.items in
      let n = length plan in
      let ids = ids_with ps plan in
      let Image : Images = IsBuilt builders.tells builders.told pool.resting in
      let old = trees.story tree in
      let last = trees.story r.tree in
      let history = r.history.items in
      let Failed = PoolRose builders.faults pool new in
      let Many = IsPastLimit builders.tells builders.told pool.resting in
      let a = run.answer in
      record {
        answer = record {
          asked = λ t. asked_so Image ps plan jobs task.book old last (is_task.owners t) history Failed r.end s is (run.tree t) a.merged (builds_end builders.told pool.resting builders.tells Failed jobs history r.end a.build);
          first = a.first;
          of = end_of_merge ids n r.end s is;
          ok = λ k ok. (all_counted r.end n k history a.merged (ok_ended ids n r.end s is k ok), told_ended ids n r.end s is a.all_told a.so_far (subst IsTold (sym ok) tt));
          kept = a.kept;
          told = told_ended ids n r.end s is a.all_told a.so_far;
          build = λ id built. failed_ended ids n r.end s is Many Failed (orders_at jobs (length history)) id a.build built;
          device = counts_for _ (s ≡ status.DeviceFault) (trees.faults tree) (trees.faults r.tree) (device_ended ids n r.end s is) a.device;
          output = counts_for _ (s ≡ status.OutputFault) (sinks.faults out) (sinks.faults r.sink) (output_ended ids n r.end s is) a.output;
        };
        tree = λ t. merged_to Image ps plan jobs task.book old last (is_task.owners t) history r.end s is (run.tree t);
        written = λ t. wrote_lines _ jobs plan history r.acknowledged.items (sinks.written out) (sinks.written r.sink) is_task.lines (run.written t);
        back = record {
          opening = refl;
          plan = refl;
          machine = machine_order (history ≡ []) (upto n) history (n + 1) r.machine run.back.machine;
          unasked = run.back.unasked;
          ids = run.back.ids;
          lent = run.back.lent;
        };
      }

-- ---- what is found for what is asked

-- what a run has seen
abbrev pub as_seen : Vec Installed Global → Result Work Status → Seen
as_seen opening r = record { opening = opening; answer = r }

-- .. whose answer is this
seen_is : (seen : Seen) (r : Result Work Status) → seen.answer ≡ r → as_seen seen.opening r ≡ seen
seen_is seen r is = ap (as_seen seen.opening) (sym is)

module _ {T : Type 0} (trees : Tree T) (asked : Asked) (old new : T) (same : IsTrue trees.tells → trees.story new ≡ trees.story old) where
  abbrev held : Map
  held = (trees.story old).now.holds

  -- what is found is to be done
  pub finds_this : (found : Found) (w : Work) → (IsTrue trees.tells → IsFound held asked found) → (IsTrue trees.tells → AreOwners held found.packages.items found.book) → found.book.claims ≡ []
      → IsPrepared found.chosen found.book asked.pretend w → trees.faults old ≤ trees.faults new → FindsWork trees asked old new (as_seen found.packages (Ok w))
  finds_this found w is owners unclaimed prepared later = record {
    answer = record {
      found = λ t. (found, is t, refl, prepared);
      pretend = asked_prepared found.chosen found.book asked w prepared;
      task = task_prepared trees.tells held found.packages.items found.chosen found.book asked.pretend w owners unclaimed prepared;
      ended = λ t. tt;
      early = tt;
      no_usage = λ f e. cc e;
      device = record { later = later; rose = λ e. absurd (cc e) };
    };
    tree = same;
    back = record { opening = λ t. tt; unread = tt };
  }

  -- nothing is
  pub finds_none : (seen : Seen) (s : Status) → seen.answer ≡ Err s → (IsTrue trees.tells → IsRefused held asked s) → IsEarly s → ((f : WordFault) → s ≡ status.Usage f → ⊥) → CountsFault (s ≡ status.DeviceFault) (trees.faults old) (trees.faults new)
      → (IsTrue trees.tells → GivesBack (AreInstalled held) (openings.HasTooMuch held) s seen.opening.items) → (IsUnread s → seen.opening.items ≡ []) → FindsWork trees asked old new seen
  finds_none seen s is refused early no_usage counts gives unread = subst (FindsWork trees asked old new) (seen_is seen (Err s) is) (record {
    answer = record {
      found = λ t. tt;
      pretend = tt;
      task = tt;
      ended = refused;
      early = early;
      no_usage = λ f e. no_usage f (cc e);
      device = counts_for (s ≡ status.DeviceFault) _ (trees.faults old) (trees.faults new) (λ e. cc e) counts;
    };
    tree = same;
    back = record { opening = gives; unread = unread };
  })

-- ---- what the words choose

module _ {T : Type 0} (trees : Tree T) (words : List (List ℕ)) (old : T) where
  abbrev opened : Story
  opened = trees.story old

  -- what was chosen, where its answer is known
  pub chooses_as : (new : T) (seen : Seen) (r : Result Work Status) → seen.answer ≡ r → ChoosesWork trees words old new seen → ChoosesWork trees words old new (as_seen seen.opening r)
  chooses_as new seen r is chooses = subst (ChoosesWork trees words old new) (sym (seen_is seen r is)) chooses

  -- it is what is found for what they ask, behind recovery
  pub chooses_found : (mid new : T) (opening : Vec Installed Global) (asked : Asked) → IsRequest words asked → (IsTrue trees.tells → HasRecovered opened (trees.story mid)) → trees.faults old ≤ trees.faults mid
      → (r : Result Work Status) → FindsWork trees asked mid new (as_seen opening r) → ChoosesWork trees words old new (as_seen opening r)
  chooses_found mid new opening asked is has later (Ok w) finds =
      let a = finds.answer in
      let ps = opening.items in
      record {
        answer = record {
          found = λ t. todo_after words asked opened (trees.story mid) (trees.story new) is (has t) (finds.tree t) ps w (a.found t);
          task = task_after trees.tells (trees.story mid) (trees.story new) ps w finds.tree a.task;
          work = named_after words asked trees.tells opened.now.holds (trees.story mid).now.holds is (λ t. (has t).recovered) ps w a.pretend a.found;
          early = tt;
          usage = λ f e. absurd (cc e);
          no_merge = λ none. tt;
          device = counts_before _ (trees.faults old) (trees.faults mid) (trees.faults new) later a.device;
        };
        tree = λ t. recovered_same opened (trees.story mid) (trees.story new) (finds.tree t) (has t);
        back = record { opening = λ t. tt; unread = tt };
      }
  chooses_found mid new opening asked is has later (Err s) finds =
      let a = finds.answer in
      let b = finds.back in
      record {
        answer = record {
          found = λ t. tt;
          task = tt;
          work = tt;
          early = a.early;
          usage = λ f e. absurd (a.no_usage f e);
          no_merge = λ none. absurd (none (asked, is));
          device = counts_before _ (trees.faults old) (trees.faults mid) (trees.faults new) later a.device;
        };
        tree = λ t. ended_after words asked opened (trees.story mid) (trees.story new) is (has t) (finds.tree t) s (a.ended t);
        back = record { opening = λ t. gives_after opened.now.holds (trees.story mid).now.holds s opening.items (has t).recovered (b.opening t); unread = b.unread };
      }

  -- the run ends before it reads what is installed
  module _ (new : T) (seen : Seen) (none : seen.opening.items ≡ []) where
    unread : (s : Status) → seen.answer ≡ Err s → (IsTrue trees.tells → EndsEarly words opened (trees.story new) s) → IsEarly s → ((f : WordFault) → s ≡ status.Usage f → IsUsage words f) → (¬ AskForMerge words → IsOfWords s ⊎ (s ≡ status.Memory))
        → CountsFault (s ≡ status.DeviceFault) (trees.faults old) (trees.faults new) → (HasRead s → ⊥) → (s ≡ status.Limit Paths → ⊥) → ChoosesWork trees words old new seen
    unread s is ends early usage no_merge counts not_read no_paths = subst (ChoosesWork trees words old new) (seen_is seen (Err s) is) (record {
      answer = record {
        found = λ t. tt;
        task = tt;
        work = tt;
        early = early;
        usage = λ f e. usage f (cc e);
        no_merge = no_merge;
        device = counts_for (s ≡ status.DeviceFault) _ (trees.faults old) (trees.faults new) (λ e. cc e) counts;
      };
      tree = ends;
      back = record {
        opening = λ t. gives_none (AreInstalledAfter opened.now.holds) (HasTooMuchAfter opened.now.holds) s seen.opening.items not_read (λ e. absurd (no_paths e)) none;
        unread = λ of. none;
      };
    })

    -- since its tree isn't recovered
    pub chooses_unrecovered : (f : RecoverFault) → seen.answer ≡ Err (status_of_recovery f) → AskForMerge words → (IsTrue trees.tells → IsFaultOf f opened.now.holds) → (IsTrue trees.tells → promises.IsRefusal f → (trees.story new).now.holds ≡ opened.now.holds)
        → (IsTrue trees.tells → Since (IsImageOrAlike opened.now) opened (trees.story new)) → CountsFault (f ≡ recovery.Tree causes.Failed) (trees.faults old) (trees.faults new) → ChoosesWork trees words old new seen
    chooses_unrecovered f told asks is same moments counts =
        unread (status_of_recovery f) told (λ t. ends_at_recovery words opened (trees.story new) f asks (is t) (same t) (moments t)) (early_recovery f) (λ u e. absurd (usage_recovery f u e)) (λ none. absurd (none asks))
        (counts_for (f ≡ recovery.Tree causes.Failed) _ (trees.faults old) (trees.faults new) (recovery_failed f) counts) (recovery_not_read f) (recovery_no_paths f)

  -- .. or at its words
  pub chooses_nothing : (seen : Seen) (none : seen.opening.items ≡ []) (s : Status) → seen.answer ≡ Err s → EndsAtWords words s → ChoosesWork trees words old old seen
  chooses_nothing seen none s is ends =
      unread old seen none s is (λ t. ends_at_words words opened s ends) (early_words words s ends) (λ f e. subst (EndsAtWords words) e ends) (λ other. words_or_memory words s ends)
      (record { later = omega arith; rose = λ e. absurd (subst (EndsAtWords words) e ends) }) (words_not_read words s ends) (words_no_paths words s ends)

-- ---- a command, from its parts

module _ {T S B : Type 0} (trees : Tree T) (sinks : Sink S) (builders : Builder B) (words : List (List ℕ)) (tree : T) (out : S) (pool : PoolValue B) where
  abbrev old : Story
  old = trees.story tree

  abbrev before : Map
  before = old.now.holds

  abbrev Image : Images
  Image = IsBuilt builders.tells builders.told pool.resting

  -- a command that merges its plan
  pub runs_merging : (mid : T) (opening : Vec Installed Global) (plan : List Group) (task : Task) (run : Ended T S (PoolValue B)) → ChoosesWork trees words tree mid (as_seen opening (Ok (work.Merge plan task)))
      → MergesTask trees sinks builders opening.items plan task mid out pool run → RunsCommand trees sinks builders false words tree out pool run
  runs_merging mid opening plan task run chooses merges =
      let a = merges.answer in
      let ps = opening.items in
      let recovered : IsTrue trees.tells → HasRecovered old (trees.story mid) = chooses.tree in
      let todo : IsTrue trees.tells → IsToDo words (trees.story mid).now.holds ps (work.Merge plan task) = chooses.answer.found in
      let named : IsNamed words trees.tells before plan = chooses.answer.work in
      let s = run.status in
      let new = trees.story mid in
      let w = work.Merge plan task in
      let comes : IsTrue trees.tells → Comes words Image run.plan old (trees.story run.tree) run.history.items s = λ t.
      outcome_merged words Image old new (trees.story run.tree) ps plan task.jobs.items run.history.items s (recovered t) (todo t) (a.asked t) a.of (merges.tree t) run.plan (some_plan plan run.plan merges.back.plan) in
      let beside : IsTrue trees.tells → AreInstalledAfter before run.opening.items = λ t. beside_work words old new ps run.opening.items w (recovered t) (todo t) merges.back.opening in
      let there = is_there (λ p. p ≡ plan) run.plan merges.back.plan in
      record {
        answer = record {
          asked = λ t. (comes t).0;
          first = subst (λ (o : Option (List Group)). IfSome o (λ p. IsBeginning (upto (length p)) run.history.items)) (sym (some_plan plan run.plan merges.back.plan)) a.first;
          ok = a.ok;
          refused = λ of. absurd (merge_not_refused s a.of of);
          kept = a.kept;
          told = a.told;
          usage = λ f e. absurd (subst IsOfMerge e a.of);
          no_merge = λ none. absurd (none (named.asked, named.is));
          build = a.build;
          device = counts_before (s ≡ status.DeviceFault) (trees.faults tree) (trees.faults mid) (trees.faults run.tree) chooses.answer.device.later a.device;
          output = a.output;
        };
        tree = λ t. (comes t).1;
        written = λ t. wrote_merging _ words trees.tells before plan run.history.items run.acknowledged.items s (sinks.written out) (sinks.written run.out) named (merges.written t);
        back = record {
          begun = λ t. inr (beside t);
          opening = λ t. gives_all (AreInstalledAfter before) (HasTooMuchAfter before) s run.opening.items (beside t);
          unread = λ of. absurd (merge_not_unread s a.of of);
          plan = λ t. plan_beside words old new ps w run.plan (recovered t) (todo t) merges.back.plan;
          planned = λ of. there;
          merging = inr there;
          machine = merges.back.machine;
          asked = inr (named.asked, named.is, named.done);
          unasked = merges.back.unasked;
          ids = merges.back.ids;
          lent = merges.back.lent;
        };
      }

  -- a command that merges nothing
  module _ (mid : T) (said : S) (opening : Vec Installed Global) (plan : Option (List Group)) (history acknowledged : Vec ℕ Global) (s : Status) (none : history.items ≡ []) (untold : acknowledged.items ≡ []) where
    abbrev idle : Ended T S (PoolValue B)
    idle = record { status = s; tree = mid; out = said; pool = pool; opening = opening; plan = plan; machine = None; history = history; acknowledged = acknowledged }

    runs_idle : (IsTrue trees.tells → Comes words Image plan old (trees.story mid) history.items s) → ((n : ℕ) → s ≡ status.Ok n → n ≡ 0) → ((f : WordFault) → s ≡ status.Usage f → IsUsage words f)
        → (¬ AskForMerge words → IsOfWords s ⊎ (s ≡ status.Memory)) → ((id : PackageId) → ¬ (s ≡ status.BuildFailed id)) → CountsFault (s ≡ status.DeviceFault) (trees.faults tree) (trees.faults mid)
        → CountsFault (s ≡ status.OutputFault) (sinks.faults out) (sinks.faults said) → (IsTrue sinks.tells → Wrote (IsSaid (Rose (sinks.faults out) (sinks.faults said)) words trees.tells before history.items acknowledged.items s) (sinks.written out) (sinks.written said))
        → (IsTrue trees.tells → GivesBack (AreInstalledAfter before) (HasTooMuchAfter before) s opening.items) → (IsUnread s → opening.items ≡ []) → (IsTrue trees.tells → IfSome plan (IsPlanOf words before)) → (HasPlan s → ¬ (plan ≡ None))
        → RunsCommand trees sinks builders false words tree out pool idle
    runs_idle comes zero usage no_merge not_built device output written gives unread is_plan planned = record {
      answer = record {
        asked = λ t. (comes t).0;
        first = first_none plan history.items none;
        ok = λ n e. (zero n e ∙ sym (ap length none), untold ∙ sym none);
        refused = λ of. none;
        kept = inl (untold ∙ sym none);
        told = λ of. untold ∙ sym none;
        usage = usage;
        no_merge = λ other. elim (no_merge other) [ inl of ↦ inl of | inr memory ↦ inr (inl memory) ];
        build = λ id e. absurd (not_built id e);
        device = device;
        output = output;
      };
      tree = λ t. (comes t).1;
      written = written;
      back = record {
        begun = λ t. inl refl;
        opening = gives;
        unread = unread;
        plan = is_plan;
        planned = planned;
        merging = inl refl;
        machine = none;
        asked = inl refl;
        unasked = λ e. refl;
        ids = λ n. refl;
        lent = refl;
      };
    }

    -- .. since its plan has no group, or is only shown
    runs_resting : (w : Work) → ChoosesWork trees words tree mid (as_seen opening (Ok w)) → MatchOption plan ⊥ (λ p. p ≡ plan_in w) → (s ≡ status.Ok 0) ⊎ (s ≡ status.OutputFault)
        → (IsTrue trees.tells → Comes words Image plan old (trees.story mid) history.items s) → CountsFault (s ≡ status.OutputFault) (sinks.faults out) (sinks.faults said)
        → (IsTrue sinks.tells → Wrote (IsSaid (Rose (sinks.faults out) (sinks.faults said)) words trees.tells before history.items acknowledged.items s) (sinks.written out) (sinks.written said)) → RunsCommand trees sinks builders false words tree out pool idle
    runs_resting w chooses is_plan ends comes output written =
        runs_idle comes (λ n e. elim ends [ inl ok ↦ (let q : 0 ≡ n = cc (ok, e) in sym q) | inr fault ↦ absurd (cc (fault, e)) ]) (λ f e. absurd (elim ends [ inl ok ↦ cc (ok, e) | inr fault ↦ cc (fault, e) ]))
        (λ other. absurd (other (asks_of words trees.tells before w chooses.answer.work))) (λ id e. elim ends [ inl ok ↦ cc (ok, e) | inr fault ↦ cc (fault, e) ])
        (record { later = chooses.answer.device.later; rose = λ e. absurd (elim ends [ inl ok ↦ cc (ok, e) | inr fault ↦ cc (fault, e) ]) }) output written
        (λ t. gives_all (AreInstalledAfter before) (HasTooMuchAfter before) s opening.items (beside_work words old (trees.story mid) opening.items opening.items w (chooses.tree t) (chooses.answer.found t) refl))
        (λ of. absurd (elim ends [ inl ok ↦ subst IsUnread ok of | inr fault ↦ subst IsUnread fault of ]))
        (λ t. plan_beside words old (trees.story mid) opening.items w plan (chooses.tree t) (chooses.answer.found t) is_plan) (λ of. is_there (λ p. p ≡ plan_in w) plan is_plan)

  -- a command that shows its plan
  pub runs_showing : (mid : T) (said : S) (opening : Vec Installed Global) (text : String Global) (plan : List Group) (s : Status) (run : Ended T S (PoolValue B)) (none : run.history.items ≡ []) (untold : run.acknowledged.items ≡ [])
      → run ≡ idle mid said opening (Some plan) run.history run.acknowledged s none untold → ChoosesWork trees words tree mid (as_seen opening (Ok (work.Show text plan))) → (s ≡ status.Ok 0) ⊎ (s ≡ status.OutputFault)
      → CountsFault (s ≡ status.OutputFault) (sinks.faults out) (sinks.faults said) → (IsTrue sinks.tells → Wrote (IsCut (Rose (sinks.faults out) (sinks.faults said)) (string_bytes text) s) (sinks.written out) (sinks.written said)) → RunsCommand trees sinks builders false words tree out pool run
  runs_showing mid said opening text plan s run none untold is chooses ends output written =
      let history = run.history in
      let told = run.acknowledged in
      subst (RunsCommand trees sinks builders false words tree out pool) (sym is) (runs_resting mid said opening (Some plan) history told s none untold (work.Show text plan) chooses refl ends
      (λ t. outcome_shown words Image (Some plan) old (trees.story mid) history.items none opening.items (string_bytes text) plan s (chooses.tree t) (chooses.answer.found t) ends) output
      (λ t. wrote_showing _ words trees.tells before (string_bytes text) history.items told.items s (sinks.written out) (sinks.written said) chooses.answer.work none (written t)))

  -- one whose plan has no group
  pub runs_empty : (mid : T) (opening : Vec Installed Global) (plan : List Group) (run : Ended T S (PoolValue B)) (none : run.history.items ≡ []) (untold : run.acknowledged.items ≡ [])
      → run ≡ idle mid out opening (Some plan) run.history run.acknowledged (status.Ok 0) none untold → ChoosesWork trees words tree mid (as_seen opening (Ok (work.Rest plan))) → RunsCommand trees sinks builders false words tree out pool run
  runs_empty mid opening plan run none untold is chooses =
      let history = run.history in
      let told = run.acknowledged in
      subst (RunsCommand trees sinks builders false words tree out pool) (sym is) (runs_resting mid out opening (Some plan) history told (status.Ok 0) none untold (work.Rest plan) chooses refl (inl refl)
      (λ t. (let todo = chooses.answer.found t in outcome_rest words Image (Some plan) old (trees.story mid) history.items none opening.items plan (chooses.tree t) todo.0 todo.1)) (record { later = omega arith; rose = λ e. absurd (cc e) })
      (λ t. wrote_resting _ words trees.tells before plan history.items told.items (status.Ok 0) (sinks.written out) (sinks.written out) chooses.answer.work none untold refl))

  -- a command that finds no plan
  pub runs_unfound : (mid : T) (opening : Vec Installed Global) (s : Status) (run : Ended T S (PoolValue B)) (none : run.history.items ≡ []) (untold : run.acknowledged.items ≡ [])
      → run ≡ idle mid out opening None run.history run.acknowledged s none untold → ChoosesWork trees words tree mid (as_seen opening (Err s)) → RunsCommand trees sinks builders false words tree out pool run
  runs_unfound mid opening s run none untold is chooses =
      let history = run.history in
      let told = run.acknowledged in
      let a = chooses.answer in
      let early : IsEarly s = a.early in
      let not : (x : Status) → s ≡ x → IsEarly x = λ x e. subst IsEarly e early in
      subst (RunsCommand trees sinks builders false words tree out pool) (sym is) (runs_idle mid out opening None history told s none untold
      (λ t. outcome_unfound words Image None old (trees.story mid) history.items none s (chooses.tree t) early) (λ n e. absurd (not (status.Ok n) e)) (λ f e. a.usage f (ap Err e)) a.no_merge (λ id e. not (status.BuildFailed id) e)
      (counts_for _ (s ≡ status.DeviceFault) (trees.faults tree) (trees.faults mid) (λ e. ap Err e) a.device)
      (record { later = omega arith; rose = λ e. absurd (not status.OutputFault e) }) (λ t. wrote_nothing _ words trees.tells before history.items told.items s (sinks.written out) (sinks.written out) early none refl)
      chooses.back.opening chooses.back.unread (λ t. tt) (λ of. absurd (early_no_plan s early of)))

  -- the last line of a command
  module _ (run : Ended T S (PoolValue B)) (s : Status) (said : S) (ends : (s ≡ run.status) ⊎ ((s ≡ status.Memory) ⊎ ((s ≡ status.OutputFault) × Rose (sinks.faults run.out) (sinks.faults said)))) where
    keeps : (P : Status → Type 0) → P run.status → P status.Memory → P status.OutputFault → P s
    keeps P came memory output = elim ends [ inl same ↦ subst P (sym same) came | inr (inl no_memory) ↦ subst P (sym no_memory) memory | inr (inr (failed, rose)) ↦ subst P (sym failed) output ]

    output_counted : CountsFault (run.status ≡ status.OutputFault) (sinks.faults out) (sinks.faults run.out) → sinks.faults run.out ≤ sinks.faults said → CountsFault (s ≡ status.OutputFault) (sinks.faults out) (sinks.faults said)
    output_counted counts le = let later = counts.later in record {
      later = omega (arith, later, le);
      rose = λ e. elim ends [
        | inl same ↦ rose_later (sinks.faults out) (sinks.faults run.out) (sinks.faults said) (counts.rose (sym same ∙ e)) le
        | inr (inl no_memory) ↦ absurd (cc (no_memory, e))
        | inr (inr (failed, rose)) ↦ rose_earlier (sinks.faults out) (sinks.faults run.out) (sinks.faults said) later rose
      ];
    }

    pub runs_finished : (run.status ≡ status.DeviceFault → s ≡ status.DeviceFault) → sinks.faults run.out ≤ sinks.faults said → (IsTrue sinks.tells → Wrote (IsEnd (Rose (sinks.faults run.out) (sinks.faults said)) run.status s) (sinks.written run.out) (sinks.written said))
        → RunsCommand trees sinks builders false words tree out pool run → RunsCommand trees sinks builders true words tree out pool (record run { status = s; out = said })
    runs_finished stays le line runs =
        let a = runs.answer in
        let b = runs.back in
        let history = run.history.items in
        let told = run.acknowledged.items in
        record {
          answer = record {
            asked = λ t. keeps (Asks words before Image history) (a.asked t) tt tt;
            first = a.first;
            ok = keeps (λ x. (n : ℕ) → x ≡ status.Ok n → (n ≡ length history) × (told ≡ history)) a.ok (λ n e. absurd (cc e)) (λ n e. absurd (cc e));
            refused = keeps (λ x. IsRefusal x → history ≡ []) a.refused (λ of. absurd of) (λ of. absurd of);
            kept = a.kept;
            told = keeps (λ x. IsTold x → told ≡ history) a.told (λ of. absurd of) (λ of. absurd of);
            usage = keeps (λ x. (f : WordFault) → x ≡ status.Usage f → IsUsage words f) a.usage (λ f e. absurd (cc e)) (λ f e. absurd (cc e));
            no_merge = λ other. keeps (λ x. IsOfWords x ⊎ ((x ≡ status.Memory) ⊎ ((true ≡ true) × (x ≡ status.OutputFault))))
                (elim (a.no_merge other) [ inl of ↦ inl of | inr (inl memory) ↦ inr (inl memory) | inr (inr (wrong, e)) ↦ absurd (cc wrong) ]) (inr (inl refl)) (inr (inr (refl, refl)));
            build = keeps (λ x. (id : PackageId) → x ≡ status.BuildFailed id → PoolRose builders.faults pool run.pool) a.build (λ id e. absurd (cc e)) (λ id e. absurd (cc e));
            device = record {
              later = a.device.later;
              rose = keeps (λ x. x ≡ status.DeviceFault → Rose (trees.faults tree) (trees.faults run.tree)) a.device.rose (λ e. absurd (cc e)) (λ e. absurd (cc e));
            };
            output = output_counted a.output le;
          };
          tree = λ t.
              let o = runs.tree t in
              let new = trees.story run.tree in
              record {
                course = o.course;
                plan = o.plan;
                moments = o.moments;
                crash = o.crash;
                left = λ healthy. o.left (λ e. healthy (stays e));
                tree = keeps (λ x. IsOfTree x → HasGroups old.now o.course history new.now) o.tree (λ of. absurd of) (λ of. absurd of);
                unchanged = keeps (λ x. IsOfWords x → new ≡ old) o.unchanged (λ of. absurd of) (λ of. absurd of);
                journal = keeps (KeepsJournal old new) o.journal tt tt;
              };
          written = λ t. wrote_all words trees.tells before (sinks.faults out) (sinks.faults run.out) (sinks.faults said) a.output.later le (λ x. IsTrue trees.tells → Asks words before Image history x) history told run.status s (sinks.written out) (sinks.written run.out) (sinks.written said)
              a.asked (λ u. tt) (runs.written t) (line t);
          back = record {
            begun = b.begun;
            opening = λ t.
                let gives = b.opening t in
                keeps (λ x. GivesBack (AreInstalledAfter before) (HasTooMuchAfter before) x run.opening.items) gives
                (record { read = λ of. absurd of; paths = λ e. absurd (cc e); whole = gives.whole }) (record { read = λ of. absurd of; paths = λ e. absurd (cc e); whole = gives.whole });
            unread = keeps (λ x. IsUnread x → run.opening.items ≡ []) b.unread (λ of. absurd of) (λ of. absurd of);
            plan = b.plan;
            planned = keeps (λ x. HasPlan x → ¬ (run.plan ≡ None)) b.planned (λ of. absurd of) (λ of. absurd of);
            merging = b.merging;
            machine = b.machine;
            asked = b.asked;
            unasked = b.unasked;
            ids = b.ids;
            lent = b.lent;
          };
        }
