-- What a run gives back of the packages that were installed, and of its plan.
use Rattle.std.proofs.Common.{◌≡◌, ℕ, List, [], Option, None, Some, inl, inr, subst, sym}
use Rattle.std.specs.Prelude.{IfSome, MatchOption}
use Rattle.file_tree.specs.Disk.{Map, Story}
use Rattle.file_tree.specs.declared.limits.Quantity.{Quantity}
use Rattle.file_tree.specs.declared.limits.Quantity.TheVariants.{Paths, RecordBytes}
use Rattle.vdb_law.specs.Packages.{Installed}
use Rattle.vdb_text.specs.declared.fault.DatabaseFault.TheVariants as databases
use Rattle.merge_journal.specs.Recovered.{IsRecovered}
use Rattle.visible_set.specs.declared.fault.OffersFault.TheVariants as offers
use Rattle.run_opening.specs.Faults as openings
use Rattle.run_opening.specs.declared.fault.OpeningFault.TheVariants as opens
use Rattle.plan_law.specs.Plans.{Group}
use Rattle.emerge_find.specs.Choices.{AreChoices, Choices, IsFound, flips_of}
use Rattle.emerge_find.specs.Refusals.{HasNoPlan, Refuses}
use Rattle.emerge_find.specs.declared.asked.Asked.{Asked}
use Rattle.emerge_find.specs.declared.ends.NoPlan.{NoPlan}
use Rattle.emerge_find.specs.declared.ends.NoPlan.TheVariants as ends
use Rattle.emerge_find.specs.declared.found.Found.{Found}
use Rattle.file_tree.specs.declared.fault.TreeFault.TheVariants as trees
use Rattle.recovery.specs.declared.fault.RecoverFault.{RecoverFault}
use Rattle.recovery.specs.declared.fault.RecoverFault.TheVariants as recovery
use Rattle.emerge_run.specs.Openings.{AreInstalled, AreInstalledAfter, GivesBack, HasRead, HasTooMuchAfter}
use Rattle.emerge_run.specs.Outcomes.{HasRecovered, IsPlanOf, IsToDo, IsWantedPlan}
use Rattle.emerge_run.specs.Refusals.{packages_with, status_of}
use Rattle.emerge_run.specs.Words.{EndsAtWords}
use Rattle.emerge_run.specs.declared.choosing.Work.{Work}
use Rattle.emerge_run.specs.declared.choosing.Work.TheVariants as work
use Rattle.merge_report.specs.Faults.{status_of_recovery}
use Rattle.merge_report.specs.declared.status.Status.{Status}
use Rattle.merge_report.specs.declared.status.Status.TheVariants as status
use Rattle.emerge_run.proofs.Endings.{at_words}

-- the words are refused before anything is read
pub words_not_read : (words : List (List ℕ)) (s : Status) → EndsAtWords words s → HasRead s → ⊥
words_not_read words = at_words words (λ s. HasRead s → ⊥) (λ f h of. of) (λ h of. of) (λ of. of)

pub words_no_paths : (words : List (List ℕ)) (s : Status) → EndsAtWords words s → s ≡ status.Limit Paths → ⊥
words_no_paths words s ends is = subst (EndsAtWords words) is ends

pub recovery_not_read : (f : RecoverFault) → HasRead (status_of_recovery f) → ⊥
recovery_not_read (recovery.BadRecord g) of = of
recovery_not_read (recovery.BadStage g i) of = of
recovery_not_read recovery.Limit of = of
recovery_not_read (recovery.Tree trees.Failed) of = of
recovery_not_read (recovery.Tree trees.Memory) of = of

pub recovery_no_paths : (f : RecoverFault) → status_of_recovery f ≡ status.Limit Paths → ⊥
recovery_no_paths (recovery.BadRecord g) e = cc e
recovery_no_paths (recovery.BadStage g i) e = cc e
recovery_no_paths recovery.Limit e = cc e
recovery_no_paths (recovery.Tree trees.Failed) e = cc e
recovery_no_paths (recovery.Tree trees.Memory) e = cc e

module _ (Such : List Installed → Type 0) (TooMuch : Quantity → Type 0) where
  pub gives_all : (s : Status) (ps : List Installed) → Such ps → GivesBack Such TooMuch s ps
  gives_all s ps such = record { read = λ of. such; paths = λ is. inl such; whole = inr such }

  pub gives_none : (s : Status) (ps : List Installed) → (HasRead s → ⊥) → (s ≡ status.Limit Paths → TooMuch Paths) → ps ≡ [] → GivesBack Such TooMuch s ps
  gives_none s ps none much empty = record { read = λ of. absurd (none of); paths = λ is. inr (empty, much is); whole = inl empty }

-- the packages of what there is to choose from are installed
of_choices : (m : Map) (flips : ℕ) (k : Choices) (ps : List Installed) → AreChoices m flips k → ps ≡ k.packages → AreInstalled m ps
of_choices m flips k ps are same = subst (AreInstalled m) (sym same) (record { database = are.opening.database; tidy = are.opening.tidy })

pub installed : (m : Map) (asked : Asked) (found : Found) → IsFound m asked found → AreInstalled m found.packages.items
installed m asked found is = of_choices m (flips_of asked.aim) is.all found.packages.items is.are is.inside.packages

beside_no_plan : (m : Map) (asked : Asked) (ps : List Installed) (e : NoPlan) → HasNoPlan m asked ps e → AreInstalled m ps
beside_no_plan m asked ps e none = of_choices m (flips_of asked.aim) none.all ps none.are none.packages

module _ (m : Map) (asked : Asked) where
  abbrev Gives : NoPlan → List Installed → Type 0
  Gives e ps = GivesBack (AreInstalled m) (openings.HasTooMuch m) (status_of e) ps

  none_given : (e : NoPlan) (ps : List Installed) → (HasRead (status_of e) → ⊥) → (status_of e ≡ status.Limit Paths → openings.HasTooMuch m Paths) → ps ≡ [] → Gives e ps
  none_given e ps none much empty = gives_none (AreInstalled m) (openings.HasTooMuch m) (status_of e) ps none much empty

  all_given : (e : NoPlan) (ps : List Installed) → AreInstalled m (packages_with e) → ps ≡ packages_with e → Gives e ps
  all_given e ps are is = gives_all (AreInstalled m) (openings.HasTooMuch m) (status_of e) ps (subst (AreInstalled m) (sym is) are)

  -- what a run without a plan gives back
  pub gives_refused : (e : NoPlan) (ps : List Installed) → Refuses m asked e → ps ≡ packages_with e → Gives e ps
  gives_refused (ends.Offers (offers.Tree trees.Memory)) ps refuses is = none_given (ends.Offers (offers.Tree trees.Memory)) ps (λ of. of) (λ is_paths. absurd (cc is_paths)) is
  gives_refused (ends.Opening (opens.Database (databases.Limit Paths))) ps refuses is = none_given (ends.Opening (opens.Database (databases.Limit Paths))) ps (λ of. of) (λ is_paths. refuses.refused) is
  gives_refused (ends.Opening (opens.Database (databases.Limit RecordBytes))) ps refuses is = absurd refuses.refused.past
  gives_refused (ends.Opening (opens.Database (databases.Tree trees.Memory))) ps refuses is = none_given (ends.Opening (opens.Database (databases.Tree trees.Memory))) ps (λ of. of) (λ is_paths. absurd (cc is_paths)) is
  gives_refused (ends.Opening (opens.Inconsistent fault packages)) ps refuses is = all_given (ends.Opening (opens.Inconsistent fault packages)) ps (record { database = refuses.refused.database; tidy = refuses.refused.tidy }) is
  gives_refused (ends.NoCandidate atom reasons packages) ps refuses is = all_given (ends.NoCandidate atom reasons packages) ps (beside_no_plan m asked packages.items _ refuses) is
  gives_refused (ends.NoSolution dead packages) ps refuses is = all_given (ends.NoSolution dead packages) ps (beside_no_plan m asked packages.items _ refuses) is
  gives_refused (ends.BacktrackLimit refuted dead packages) ps refuses is = all_given (ends.BacktrackLimit refuted dead packages) ps (beside_no_plan m asked packages.items _ refuses) is
  gives_refused (ends.Refused fault packages) ps refuses is = all_given (ends.Refused fault packages) ps (beside_no_plan m asked packages.items _ refuses) is
  gives_refused (ends.BuildCycle cycle packages) ps refuses is = all_given (ends.BuildCycle cycle packages) ps (beside_no_plan m asked packages.items _ refuses) is
  gives_refused (ends.NoOrder fault packages) ps refuses is = all_given (ends.NoOrder fault packages) ps (beside_no_plan m asked packages.items _ refuses) is
  gives_refused (ends.NotPlanned packages) ps refuses is = all_given (ends.NotPlanned packages) ps (beside_no_plan m asked packages.items _ refuses) is
  gives_refused (ends.Tree trees.Memory) ps refuses is = none_given (ends.Tree trees.Memory) ps (λ of. of) (λ is_paths. absurd (cc is_paths)) is
  gives_refused e ps refuses is = none_given e ps (λ of. of) (λ is_paths. absurd (cc is_paths)) is

pub gives_after : (opening m : Map) (s : Status) (ps : List Installed) → IsRecovered opening m → GivesBack (AreInstalled m) (openings.HasTooMuch m) s ps → GivesBack (AreInstalledAfter opening) (HasTooMuchAfter opening) s ps
gives_after opening m s ps is gives = record {
  read = λ of. (m, is, gives.read of);
  paths = λ e. elim (gives.paths e) [ inl all ↦ inl (m, is, all) | inr none ↦ inr (none.0, (m, is, none.1)) ];
  whole = elim gives.whole [ inl none ↦ inl none | inr all ↦ inr (m, is, all) ];
}

-- ---- what there is beside what is to be done

wanted_installed : (words : List (List ℕ)) (m : Map) (ps : List Installed) (plan : List Group) → IsWantedPlan words m ps plan → AreInstalled m ps
wanted_installed words m ps plan (found, chosen, same) = subst (AreInstalled m) (sym chosen.packages) (installed m chosen.asked found chosen.ready.is)

todo_installed : (words : List (List ℕ)) (m : Map) (ps : List Installed) (w : Work) → IsToDo words m ps w → AreInstalled m ps
todo_installed words m ps (work.Show text plan) is = subst (AreInstalled m) (sym is.packages) (installed m is.asked is.found is.in_map)
todo_installed words m ps (work.Rest plan) (choice, none) = wanted_installed words m ps plan (choice.0, choice.1, choice.2)
todo_installed words m ps (work.Merge plan task) choice = wanted_installed words m ps plan (choice.0, choice.1, choice.2)

pub beside_work : (words : List (List ℕ)) (old new : Story) (ps qs : List Installed) (w : Work) → HasRecovered old new → IsToDo words new.now.holds ps w → qs ≡ ps → AreInstalledAfter old.now.holds qs
beside_work words old new ps qs w has is same =
    subst (AreInstalledAfter old.now.holds) (sym same) (new.now.holds, has.recovered, todo_installed words new.now.holds ps w is)

-- the plan of what is to be done
abbrev pub plan_in : Work → List Group
plan_in (work.Show text plan) = plan
plan_in (work.Rest plan) = plan
plan_in (work.Merge plan task) = plan

todo_plan : (words : List (List ℕ)) (opening m : Map) (ps : List Installed) (w : Work) → IsRecovered opening m → IsToDo words m ps w → IsPlanOf words opening (plan_in w)
todo_plan words opening m ps (work.Show text plan) recovered is = (is.asked, is.is, (m, recovered, (is.found, is.in_map, is.plan_is)))
todo_plan words opening m ps (work.Rest plan) recovered (choice, none) = (choice.1.asked, choice.1.is, (m, recovered, (choice.0, choice.1.ready.is, choice.2)))
todo_plan words opening m ps (work.Merge plan task) recovered choice = (choice.1.asked, choice.1.is, (m, recovered, (choice.0, choice.1.ready.is, choice.2)))

pub plan_beside : (words : List (List ℕ)) (old new : Story) (ps : List Installed) (w : Work) (o : Option (List Group)) → HasRecovered old new → IsToDo words new.now.holds ps w → MatchOption o ⊥ (λ p. p ≡ plan_in w) → IfSome o (IsPlanOf words old.now.holds)
plan_beside words old new ps w None has is some = tt
plan_beside words old new ps w (Some p) has is some = subst (IsPlanOf words old.now.holds) (sym some) (todo_plan words old.now.holds new.now.holds ps w has.recovered is)

pub is_there : {A : Type 0} (P : A → Type 0) (o : Option A) → MatchOption o ⊥ P → ¬ (o ≡ None)
is_there P None none = λ e. none
is_there P (Some x) some = λ e. cc e
