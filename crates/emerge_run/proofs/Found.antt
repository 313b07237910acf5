-- What a run has found, and how it ends without it.
use Rattle.std.proofs.Common.{◌≡◌, ℕ, Bool, List, [], inr, refl, subst, sym}
use Rattle.std.specs.Prelude.{IsTrue}
use Rattle.emerge_words.specs.declared.request.WordFault.{WordFault}
use Rattle.file_tree.specs.Disk.{Map, Story}
use Rattle.file_tree.specs.declared.fault.TreeFault.TheVariants as trees
use Rattle.file_tree.specs.declared.limits.Quantity.TheVariants.{Groups}
use Rattle.merge_journal.specs.Recovered.{IsRecovered}
use Rattle.owner_book.specs.Book.{Book}
use Rattle.vdb_law.specs.Packages.{Installed}
use Rattle.vdb_text.specs.declared.fault.DatabaseFault.TheVariants as databases
use Rattle.visible_set.specs.declared.fault.OffersFault.TheVariants as offers
use Rattle.run_opening.specs.declared.fault.OpeningFault.TheVariants as openings
use Rattle.law_run.specs.Openings.{AreOwners}
use Rattle.plan_law.specs.Plans.{Group}
use Rattle.emerge_choose.specs.declared.chosen.Chosen.{Chosen}
use Rattle.emerge_find.specs.Ends.{IsDeviceFailure}
use Rattle.emerge_find.specs.declared.asked.Asked.{Asked}
use Rattle.emerge_find.specs.declared.ends.NoPlan.{NoPlan}
use Rattle.emerge_find.specs.declared.ends.NoPlan.TheVariants as ends
use Rattle.run_turns.specs.Plans.{AreJobs, line_for}
use Rattle.emerge_run.specs.Answers.{AsksEarly, IsRefused, IsRefusedAfter}
use Rattle.emerge_run.specs.Builds.{line_of}
use Rattle.emerge_run.specs.Openings.{IsUnread}
use Rattle.emerge_run.specs.Outcomes.{EndsEarly, HasRecovered, IsEarly, IsToDo, IsWork, KeepsJournal}
use Rattle.emerge_run.specs.Refusals.{packages_with, status_of}
use Rattle.emerge_run.specs.Tasks.{IsAsked, IsPrepared, IsTaskOf, IsWanted}
use Rattle.emerge_run.specs.Words.{AskForMerge, IsOfWords, IsRequest}
use Rattle.emerge_run.specs.declared.choosing.Work.{Work}
use Rattle.emerge_run.specs.declared.choosing.Work.TheVariants as work
use Rattle.merge_report.specs.declared.status.Status.{Status}
use Rattle.merge_report.specs.declared.status.Status.TheVariants as status
use Rattle.emerge_run.proofs.Endings.{early_kept}

-- ---- a run without a plan

-- what it asks for
refused_asks : (words : List (List ℕ)) (opening : Map) (e : NoPlan) → IsRefusedAfter words opening (status_of e) → AsksEarly words opening (status_of e)
refused_asks words opening (ends.Offers (offers.Tree trees.Failed)) asks = tt
refused_asks words opening (ends.Offers (offers.Tree trees.Memory)) asks = tt
refused_asks words opening (ends.Opening (openings.Database (databases.Limit Groups))) asks = inr asks
refused_asks words opening (ends.Opening (openings.Database (databases.Tree trees.Failed))) asks = tt
refused_asks words opening (ends.Opening (openings.Database (databases.Tree trees.Memory))) asks = tt
refused_asks words opening ends.Limit asks = inr asks
refused_asks words opening (ends.Tree trees.Failed) asks = tt
refused_asks words opening (ends.Tree trees.Memory) asks = tt
refused_asks words opening e asks = asks

-- it never comes of the words alone
words_plan : (e : NoPlan) → IsOfWords (status_of e) → ⊥
words_plan (ends.Offers (offers.Tree trees.Memory)) of = of
words_plan (ends.Opening (openings.Database (databases.Tree trees.Memory))) of = of
words_plan (ends.Tree trees.Memory) of = of
words_plan e of = of

-- nor of the journal: a plan's file with too many groups is read behind recovery
plan_keeps : (old new : Story) (e : NoPlan) → HasRecovered old new → KeepsJournal old new (status_of e)
plan_keeps old new (ends.Offers (offers.Tree trees.Memory)) has = tt
plan_keeps old new (ends.Opening (openings.Database (databases.Limit Groups))) has = inr has
plan_keeps old new (ends.Opening (openings.Database (databases.Tree trees.Memory))) has = tt
plan_keeps old new ends.Limit has = inr has
plan_keeps old new (ends.Tree trees.Memory) has = tt
plan_keeps old new e has = tt

-- it is one of those before a plan is found
pub plan_early : (e : NoPlan) → IsEarly (status_of e)
plan_early (ends.Offers (offers.Tree trees.Memory)) = tt
plan_early (ends.Opening (openings.Database (databases.Tree trees.Memory))) = tt
plan_early (ends.Tree trees.Memory) = tt
plan_early e = tt

-- it comes with no packages where none were read
pub plan_unread : (e : NoPlan) → IsUnread (status_of e) → packages_with e ≡ []
plan_unread (ends.Opening (openings.Inconsistent fault packages)) of = absurd of
plan_unread (ends.NoCandidate atom reasons packages) of = absurd of
plan_unread (ends.NoSolution dead packages) of = absurd of
plan_unread (ends.BacktrackLimit refuted dead packages) of = absurd of
plan_unread (ends.Refused fault packages) of = absurd of
plan_unread (ends.BuildCycle cycle packages) of = absurd of
plan_unread (ends.NoOrder fault packages) of = absurd of
plan_unread (ends.NotPlanned packages) of = absurd of
plan_unread e of = refl

-- it is told as the device's only where that failed
pub plan_failed : (e : NoPlan) → status_of e ≡ status.DeviceFault → IsDeviceFailure e
plan_failed (ends.Offers (offers.Tree trees.Failed)) is = refl
plan_failed (ends.Offers (offers.Tree trees.Memory)) is = absurd (cc is)
plan_failed (ends.Opening (openings.Database (databases.Tree trees.Failed))) is = refl
plan_failed (ends.Opening (openings.Database (databases.Tree trees.Memory))) is = absurd (cc is)
plan_failed (ends.Tree trees.Failed) is = refl
plan_failed (ends.Tree trees.Memory) is = absurd (cc is)
plan_failed e is = absurd (cc is)

pub plan_no_usage : (e : NoPlan) (f : WordFault) → status_of e ≡ status.Usage f → ⊥
plan_no_usage e f is = words_plan e (subst IsOfWords (sym is) tt)

-- ---- what is prepared of what is found

pub asked_prepared : (chosen : Chosen) (book : Book) (asked : Asked) (w : Work) → IsPrepared chosen book asked.pretend w → IsAsked asked w
asked_prepared chosen book asked (work.Show text plan) prepared = prepared.0
asked_prepared chosen book asked (work.Rest plan) prepared = prepared.0
asked_prepared chosen book asked (work.Merge plan task) prepared = prepared.0

pub task_prepared : (tells : Bool) (m : Map) (ps : List Installed) (chosen : Chosen) (book : Book) (pretend : Bool) (w : Work) → (IsTrue tells → AreOwners m ps book) → book.claims ≡ [] → IsPrepared chosen book pretend w → IsTaskOf tells m ps w
task_prepared tells m ps chosen book pretend (work.Show text plan) owners unclaimed prepared = tt
task_prepared tells m ps chosen book pretend (work.Rest plan) owners unclaimed prepared = tt
task_prepared tells m ps chosen book pretend (work.Merge plan task) owners unclaimed prepared =
    let jobs = task.jobs.items in
    let same = prepared.1 in
    let book_is = prepared.3 in
    record {
      are = subst (λ (gs : List Group). AreJobs gs jobs) same prepared.2.are;
      lines = λ n. subst (λ (gs : List Group). line_for jobs n ≡ line_of gs n) same (prepared.2.lines n);
      unclaimed = subst (λ (b : Book). b.claims ≡ []) (sym book_is) unclaimed;
      owners = λ t. subst (AreOwners m ps) (sym book_is) (owners t);
    }

-- ---- over the tree that recovery made

module _ (words : List (List ℕ)) (asked : Asked) (old mid new : Story) (is : IsRequest words asked) (has : HasRecovered old mid) (same : new ≡ mid) where
  pub ended_after : (s : Status) → IsRefused mid.now.holds asked s → EndsEarly words old new s
  ended_after s (e, refuses, told) =
      let asks = refused_asks words old.now.holds e (asked, is, (mid.now.holds, has.recovered, (e, refuses, refl))) in
      early_kept words old mid new s same has (subst (AsksEarly words old.now.holds) (sym told) asks) (λ of. words_plan e (subst IsOfWords told of))
      (λ here. subst (KeepsJournal old new) (sym told) (plan_keeps old new e here))

  todo : (ps : List Installed) (w : Work) → IsWanted mid.now.holds asked ps w → IsToDo words mid.now.holds ps w
  todo ps (work.Show text plan) (found, at, packages, prepared) =
      record { asked = asked; is = is; only = prepared.0; found = found; in_map = at; packages = packages; text_is = prepared.1; plan_is = prepared.2 }
  todo ps (work.Rest plan) (found, at, packages, prepared) =
      ((found, record { asked = asked; is = is; ready = record { is = at; done = prepared.0 }; packages = packages }, prepared.1, prepared.3), prepared.2)
  todo ps (work.Merge plan task) (found, at, packages, prepared) =
      (found, record { asked = asked; is = is; ready = record { is = at; done = prepared.0 }; packages = packages }, prepared.1, prepared.2)

  pub todo_after : (ps : List Installed) (w : Work) → IsWanted mid.now.holds asked ps w → IsToDo words new.now.holds ps w
  todo_after ps w wanted = subst (λ (x : Story). IsToDo words x.now.holds ps w) (sym same) (todo ps w wanted)

-- what a merge takes of a tree it takes of one that is alike
pub task_after : (tells : Bool) (mid new : Story) (ps : List Installed) (w : Work) → (IsTrue tells → new ≡ mid) → IsTaskOf tells mid.now.holds ps w → IsTaskOf tells new.now.holds ps w
task_after tells mid new ps (work.Show text plan) same of = tt
task_after tells mid new ps (work.Rest plan) same of = tt
task_after tells mid new ps (work.Merge plan task) same of = record {
  are = of.are;
  lines = of.lines;
  unclaimed = of.unclaimed;
  owners = λ t. subst (λ (x : Story). AreOwners x.now.holds ps task.book) (sym (same t)) (of.owners t);
}

-- ---- what is to be done is what the words name

module _ (words : List (List ℕ)) (asked : Asked) (tells : Bool) (opening m : Map) (is : IsRequest words asked) (recovered : IsTrue tells → IsRecovered opening m) where
  pub named_after : (ps : List Installed) (w : Work) → IsAsked asked w → (IsTrue tells → IsWanted m asked ps w) → IsWork words tells opening w
  named_after ps (work.Show text plan) only wanted = record {
    asked = asked;
    is = is;
    only = only;
    text_is = λ t. let w = wanted t in (m, recovered t, (w.0, w.1, w.3.1));
  }
  named_after ps (work.Rest plan) done wanted = record {
    asked = asked;
    is = is;
    done = done;
    names = λ t. let w = wanted t in (m, recovered t, (w.0, record { is = w.1; done = done }, w.3.1));
  }
  named_after ps (work.Merge plan task) done wanted = record {
    asked = asked;
    is = is;
    done = done;
    names = λ t. let w = wanted t in (m, recovered t, (w.0, record { is = w.1; done = done }, w.3.1));
  }

-- where there is something to do, the words ask for it
pub asks_of : (words : List (List ℕ)) (tells : Bool) (opening : Map) (w : Work) → IsWork words tells opening w → AskForMerge words
asks_of words tells opening (work.Show text plan) is = (is.asked, is.is)
asks_of words tells opening (work.Rest plan) is = (is.asked, is.is)
asks_of words tells opening (work.Merge plan task) is = (is.asked, is.is)
