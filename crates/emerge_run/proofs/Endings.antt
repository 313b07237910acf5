-- How a run's outcome comes of its stages.
use Rattle.std.proofs.Common.{◌≡◌, ◌∙◌, ◌⊎◌, ℕ, List, [], Option, None, Some, inl, inr, length, refl, ap, sym, subst}
use Rattle.file_tree.specs.Disk.{IsUntouched, Map, Story}
use Rattle.file_tree.specs.Moments.{Since}
use Rattle.file_tree.proofs.Moments.{since_same, since_start, since_then, since_weaker}
use Rattle.file_tree.specs.declared.limits.Quantity.TheVariants.{Candidates, Groups, Packages, Paths, RecordBytes}
use Rattle.dep_atom.specs.declared.package.PackageId.{PackageId}
use Rattle.vdb_law.specs.Packages.{Installed}
use Rattle.merge_core.specs.Trail.{IsAtRest}
use Rattle.merge_journal.specs.Recovered.{IsRecovered}
use Rattle.merge_fit.specs.declared.fault.ImageBad.{ImageBad}
use Rattle.recovery.specs.Promise as promises
use Rattle.recovery.specs.Promise.{IsFaultOf}
use Rattle.file_tree.specs.declared.fault.TreeFault.TheVariants as trees
use Rattle.recovery.specs.declared.fault.RecoverFault.{RecoverFault}
use Rattle.recovery.specs.declared.fault.RecoverFault.TheVariants as recovery
use Rattle.merge_group.specs.Applied.{RecoversWith}
use Rattle.law_run.specs.Ends.{IsImageOrAlike}
use Rattle.plan_law.specs.Plans.{Group}
use Rattle.emerge_find.specs.declared.asked.Asked.{Asked}
use Rattle.run_turns.specs.declared.job.Job.{Job}
use Rattle.run_plan.specs.Runs.{upto}
use Rattle.run_sound.specs.Ends.{AreMade, Course, Images, IsReached}
use Rattle.emerge_run.specs.Answers.{Asks, AsksEarly, AsksMerge, AsksPlan}
use Rattle.emerge_run.specs.Outcomes.{EndsEarly, HasRecovered, IsChoice, IsChosenFor, IsEarly, IsOfMerge, IsOfTree, IsRefusal, IsToShow, KeepsJournal, MergedTo, Outcome}
use Rattle.emerge_run.specs.Openings.{HasPlan, IsUnread}
use Rattle.emerge_run.specs.Words.{AskForMerge, AskForOther, EndsAtWords, IsOfWords, IsRequest, IsUsage}
use Rattle.emerge_words.specs.declared.request.WordFault.{WordFault}
use Rattle.merge_report.specs.Faults.{status_of_recovery}
use Rattle.merge_report.specs.declared.collision.Collision.{Collision}
use Rattle.merge_report.specs.declared.status.Part.TheVariants as part
use Rattle.merge_report.specs.declared.status.Status.{Status}
use Rattle.merge_report.specs.declared.status.Status.TheVariants as status

-- ---- what reading the words answers

module _ (words : List (List ℕ)) (P : Status → Type 0) (usage : (f : WordFault) → IsUsage words f → P (status.Usage f)) (other : AskForOther words → P (status.NotBuilt part.Command)) (memory : P status.Memory) where
  -- what holds of each of these answers
  pub at_words : (s : Status) → EndsAtWords words s → P s
  at_words (status.Ok groups) ends = absurd ends
  at_words (status.Usage fault) ends = usage fault ends
  at_words (status.BadText path line) ends = absurd ends
  at_words (status.BadDatabase fault) ends = absurd ends
  at_words (status.BadJournal fault) ends = absurd ends
  at_words (status.Inconsistent fault) ends = absurd ends
  at_words (status.NoCandidate atom reasons) ends = absurd ends
  at_words (status.NoSolution dead) ends = absurd ends
  at_words (status.BacktrackLimit refuted dead) ends = absurd ends
  at_words (status.PlanRefused fault) ends = absurd ends
  at_words (status.BuildCycle packages) ends = absurd ends
  at_words (status.NoOrder fault) ends = absurd ends
  at_words (status.Collision c) ends = absurd ends
  at_words (status.BadImage b) ends = absurd ends
  at_words (status.BuildFailed id) ends = absurd ends
  at_words status.DeviceFault ends = absurd ends
  at_words status.OutputFault ends = absurd ends
  at_words (status.Limit quantity) ends = absurd ends
  at_words status.Memory ends = memory
  at_words (status.NotBuilt part.Command) ends = other ends
  at_words (status.NotBuilt part.Result) ends = absurd ends

pub early_words : (words : List (List ℕ)) (s : Status) → EndsAtWords words s → IsEarly s
early_words words = at_words words IsEarly (λ f h. tt) (λ h. tt) tt

asks_words : (words : List (List ℕ)) (m : Map) (s : Status) → EndsAtWords words s → AsksEarly words m s
asks_words words m = at_words words (AsksEarly words m) (λ f h. h) (λ h. h) tt

-- the words alone make it, or want of memory
pub words_or_memory : (words : List (List ℕ)) (s : Status) → EndsAtWords words s → IsOfWords s ⊎ (s ≡ status.Memory)
words_or_memory words = at_words words (λ s. IsOfWords s ⊎ (s ≡ status.Memory)) (λ f h. inl tt) (λ h. inl tt) (inr refl)

words_not_of_tree : (words : List (List ℕ)) (s : Status) → EndsAtWords words s → IsOfTree s → ⊥
words_not_of_tree words = at_words words (λ s. IsOfTree s → ⊥) (λ f h of. of) (λ h of. of) (λ of. of)

words_keep : (words : List (List ℕ)) (old new : Story) (s : Status) → EndsAtWords words s → KeepsJournal old new s
words_keep words old new = at_words words (KeepsJournal old new) (λ f h. tt) (λ h. tt) tt

-- ---- what a merge answers

module _ (P : Status → Type 0) (ok : (n : ℕ) → P (status.Ok n)) (collision : (c : Collision) → P (status.Collision c)) (image : (b : ImageBad) → P (status.BadImage b)) (build : (id : PackageId) → P (status.BuildFailed id))
    (paths : P (status.Limit Paths)) (bytes : P (status.Limit RecordBytes)) (device : P status.DeviceFault) (output : P status.OutputFault) (memory : P status.Memory) where
  -- what holds of each of these answers
  pub at_merge : (s : Status) → IsOfMerge s → P s
  at_merge (status.Ok groups) of = ok groups
  at_merge (status.Usage fault) of = absurd of
  at_merge (status.BadText path line) of = absurd of
  at_merge (status.BadDatabase fault) of = absurd of
  at_merge (status.BadJournal fault) of = absurd of
  at_merge (status.Inconsistent fault) of = absurd of
  at_merge (status.NoCandidate atom reasons) of = absurd of
  at_merge (status.NoSolution dead) of = absurd of
  at_merge (status.BacktrackLimit refuted dead) of = absurd of
  at_merge (status.PlanRefused fault) of = absurd of
  at_merge (status.BuildCycle packages) of = absurd of
  at_merge (status.NoOrder fault) of = absurd of
  at_merge (status.Collision c) of = collision c
  at_merge (status.BadImage b) of = image b
  at_merge (status.BuildFailed id) of = build id
  at_merge status.DeviceFault of = device
  at_merge status.OutputFault of = output
  at_merge (status.Limit Groups) of = absurd of
  at_merge (status.Limit Packages) of = absurd of
  at_merge (status.Limit Candidates) of = absurd of
  at_merge (status.Limit Paths) of = paths
  at_merge (status.Limit RecordBytes) of = bytes
  at_merge status.Memory of = memory
  at_merge (status.NotBuilt what) of = absurd of

pub merge_not_of_words : (s : Status) → IsOfMerge s → IsOfWords s → ⊥
merge_not_of_words = at_merge (λ s. IsOfWords s → ⊥) (λ n e. e) (λ c e. e) (λ b e. e) (λ id e. e) (λ e. e) (λ e. e) (λ e. e) (λ e. e) (λ e. e)

pub merge_not_refused : (s : Status) → IsOfMerge s → IsRefusal s → ⊥
merge_not_refused = at_merge (λ s. IsRefusal s → ⊥) (λ n e. e) (λ c e. e) (λ b e. e) (λ id e. e) (λ e. e) (λ e. e) (λ e. e) (λ e. e) (λ e. e)

merge_keeps : (old new : Story) (s : Status) → IsOfMerge s → KeepsJournal old new s
merge_keeps old new = at_merge (KeepsJournal old new) (λ n. tt) (λ c. tt) (λ b. tt) (λ id. tt) tt tt tt tt tt

pub merge_not_unread : (s : Status) → IsOfMerge s → IsUnread s → ⊥
merge_not_unread = at_merge (λ s. IsUnread s → ⊥) (λ n e. e) (λ c e. e) (λ b e. e) (λ id e. e) (λ e. e) (λ e. e) (λ e. e) (λ e. e) (λ e. e)

-- ---- what recovery answers

recovery_asks : (words : List (List ℕ)) (opening : Map) (f : RecoverFault) → AskForMerge words → IsFaultOf f opening → AsksEarly words opening (status_of_recovery f)
recovery_asks words opening (recovery.BadRecord g) command is = (command, is)
recovery_asks words opening (recovery.BadStage g i) command is = (command, is)
recovery_asks words opening recovery.Limit command is = inl (command, is)
recovery_asks words opening (recovery.Tree trees.Failed) command is = tt
recovery_asks words opening (recovery.Tree trees.Memory) command is = tt

pub early_recovery : (f : RecoverFault) → IsEarly (status_of_recovery f)
early_recovery (recovery.BadRecord g) = tt
early_recovery (recovery.BadStage g i) = tt
early_recovery recovery.Limit = tt
early_recovery (recovery.Tree trees.Failed) = tt
early_recovery (recovery.Tree trees.Memory) = tt

recovery_not_of_tree : (f : RecoverFault) → IsOfTree (status_of_recovery f) → ⊥
recovery_not_of_tree (recovery.BadRecord g) of = of
recovery_not_of_tree (recovery.BadStage g i) of = of
recovery_not_of_tree recovery.Limit of = of
recovery_not_of_tree (recovery.Tree trees.Failed) of = of
recovery_not_of_tree (recovery.Tree trees.Memory) of = of

pub recovery_not_of_words : (f : RecoverFault) → IsOfWords (status_of_recovery f) → ⊥
recovery_not_of_words (recovery.BadRecord g) of = of
recovery_not_of_words (recovery.BadStage g i) of = of
recovery_not_of_words recovery.Limit of = of
recovery_not_of_words (recovery.Tree trees.Failed) of = of
recovery_not_of_words (recovery.Tree trees.Memory) of = of

-- a refusal of the journal leaves the tree as it read
recovery_keeps : (old new : Story) (f : RecoverFault) → (promises.IsRefusal f → new.now.holds ≡ old.now.holds) → KeepsJournal old new (status_of_recovery f)
recovery_keeps old new (recovery.BadRecord g) same = same tt
recovery_keeps old new (recovery.BadStage g i) same = same tt
recovery_keeps old new recovery.Limit same = inl (same tt)
recovery_keeps old new (recovery.Tree trees.Failed) same = tt
recovery_keeps old new (recovery.Tree trees.Memory) same = tt

-- it is told as the device's only where that failed
pub recovery_failed : (f : RecoverFault) → status_of_recovery f ≡ status.DeviceFault → f ≡ recovery.Tree trees.Failed
recovery_failed (recovery.BadRecord g) is = absurd (cc is)
recovery_failed (recovery.BadStage g i) is = absurd (cc is)
recovery_failed recovery.Limit is = absurd (cc is)
recovery_failed (recovery.Tree trees.Failed) is = refl
recovery_failed (recovery.Tree trees.Memory) is = absurd (cc is)

pub usage_recovery : (r : RecoverFault) (f : WordFault) → status_of_recovery r ≡ status.Usage f → ⊥
usage_recovery r f is = recovery_not_of_words r (subst IsOfWords (sym is) tt)

-- ---- a run that finds no plan

-- a crash of an unchanged tree leaves one of its own images
kept_same : (old new : Story) → new ≡ old → Since (IsImageOrAlike old.now) old new
kept_same old new same = since_same (IsImageOrAlike old.now) old old new (since_start (IsImageOrAlike old.now) old (λ c is. inl is)) same

pub at_rest : (opening : Map) (s : Story) → IsRecovered opening s.now.holds × IsUntouched s.now → IsAtRest s.now.holds s.now
at_rest opening s h = record { untouched = h.1; reads = λ q. refl; empty = h.0.cleared }

pub ends_at_words : (words : List (List ℕ)) (old : Story) (s : Status) → EndsAtWords words s → EndsEarly words old old s
ends_at_words words old s ends = record { answer = asks_words words old.now.holds s ends; moments = kept_same old old refl; tree = λ of. absurd (words_not_of_tree words s ends of); unchanged = λ of. refl; journal = words_keep words old old s ends }

pub ends_at_recovery : (words : List (List ℕ)) (old new : Story) (f : RecoverFault) → AskForMerge words → IsFaultOf f old.now.holds → (promises.IsRefusal f → new.now.holds ≡ old.now.holds) → Since (IsImageOrAlike old.now) old new → EndsEarly words old new (status_of_recovery f)
ends_at_recovery words old new f command is same since =
    record { answer = recovery_asks words old.now.holds f command is; moments = since; tree = λ of. absurd (recovery_not_of_tree f of); unchanged = λ of. absurd (recovery_not_of_words f of); journal = recovery_keeps old new f same }

pub recovered_same : (old mid new : Story) → new ≡ mid → HasRecovered old mid → HasRecovered old new
recovered_same old mid new same has = subst (HasRecovered old) (sym same) has

pub early_kept : (words : List (List ℕ)) (old mid new : Story) (s : Status) → new ≡ mid → HasRecovered old mid → AsksEarly words old.now.holds s → (IsOfWords s → ⊥) → (HasRecovered old new → KeepsJournal old new s) → EndsEarly words old new s
early_kept words old mid new s same has asks other keeps =
    let here = recovered_same old mid new same has in
    record { answer = asks; moments = here.moments; tree = λ of. here; unchanged = λ of. absurd (other of); journal = keeps here }

pub early_no_plan : (s : Status) → IsEarly s → HasPlan s → ⊥
early_no_plan (status.Ok groups) early of = early
early_no_plan (status.Usage fault) early of = of
early_no_plan (status.BadText path line) early of = of
early_no_plan (status.BadDatabase fault) early of = of
early_no_plan (status.BadJournal fault) early of = of
early_no_plan (status.Inconsistent fault) early of = of
early_no_plan (status.NoCandidate atom reasons) early of = of
early_no_plan (status.NoSolution dead) early of = of
early_no_plan (status.BacktrackLimit refuted dead) early of = of
early_no_plan (status.PlanRefused fault) early of = of
early_no_plan (status.BuildCycle packages) early of = of
early_no_plan (status.NoOrder fault) early of = of
early_no_plan (status.Collision c) early of = early
early_no_plan (status.BadImage b) early of = early
early_no_plan (status.BuildFailed id) early of = early
early_no_plan status.DeviceFault early of = of
early_no_plan status.OutputFault early of = of
early_no_plan (status.Limit quantity) early of = of
early_no_plan status.Memory early of = of
early_no_plan (status.NotBuilt what) early of = of

-- what such a run asks for, whatever the images
early_asks : (words : List (List ℕ)) (opening : Map) (Image : Images) (s : Status) → IsEarly s → AsksEarly words opening s → Asks words opening Image [] s
early_asks words opening Image (status.Ok groups) of asks = absurd of
early_asks words opening Image (status.Usage fault) of asks = asks
early_asks words opening Image (status.BadText path line) of asks = asks
early_asks words opening Image (status.BadDatabase fault) of asks = asks
early_asks words opening Image (status.BadJournal fault) of asks = asks
early_asks words opening Image (status.Inconsistent fault) of asks = asks
early_asks words opening Image (status.NoCandidate atom reasons) of asks = asks
early_asks words opening Image (status.NoSolution dead) of asks = asks
early_asks words opening Image (status.BacktrackLimit refuted dead) of asks = asks
early_asks words opening Image (status.PlanRefused fault) of asks = asks
early_asks words opening Image (status.BuildCycle packages) of asks = asks
early_asks words opening Image (status.NoOrder fault) of asks = asks
early_asks words opening Image (status.Collision c) of asks = absurd of
early_asks words opening Image (status.BadImage b) of asks = absurd of
early_asks words opening Image (status.BuildFailed id) of asks = absurd of
early_asks words opening Image status.DeviceFault of asks = tt
early_asks words opening Image status.OutputFault of asks = absurd of
early_asks words opening Image (status.Limit quantity) of asks = inl asks
early_asks words opening Image status.Memory of asks = tt
early_asks words opening Image (status.NotBuilt part.Command) of asks = asks
early_asks words opening Image (status.NotBuilt part.Result) of asks = asks

-- a run came to this answer, which is asked for, and leaves this
abbrev pub Comes : List (List ℕ) → Images → Option (List Group) → Story → Story → List ℕ → Status → Type 0
Comes words Image back old new history s = Asks words old.now.holds Image history s × Outcome words Image back old new history s

module _ (words : List (List ℕ)) (Image : Images) (back : Option (List Group)) (old new : Story) (s : Status) where
  -- nothing is merged
  abbrev nothing : Option (Course (IsChoice words) Image old.now.holds)
  nothing = None

  -- a run that merged nothing
  outcome_kept : Asks words old.now.holds Image [] s → Since (IsImageOrAlike old.now) old new → (IsOfTree s → HasRecovered old new) → (IsOfWords s → new ≡ old) → KeepsJournal old new s → Comes words Image back old new [] s
  outcome_kept asks since tree unchanged journal = (
    asks,
    record {
      course = nothing;
      plan = tt;
      moments = since_weaker (IsImageOrAlike old.now) (IsReached old.now nothing []) (λ c h. inl (refl, h)) old new since;
      crash = λ c is. inl (refl, since.now c is);
      left = λ healthy. inl (refl, since.now);
      tree = λ of. let has = tree of in inl (refl, record { recovered = has.recovered; settled = has.rest.untouched });
      unchanged = unchanged;
      journal = journal;
    },
  )

  outcome_early : IsEarly s → EndsEarly words old new s → Comes words Image back old new [] s
  outcome_early of ends = outcome_kept (early_asks words old.now.holds Image s of ends.answer) ends.moments ends.tree ends.unchanged ends.journal

  outcome_over : HasRecovered old new → (IsOfWords s → ⊥) → KeepsJournal old new s → Asks words old.now.holds Image [] s → Comes words Image back old new [] s
  outcome_over has other journal asks = outcome_kept asks has.moments (λ of. has) (λ of. absurd (other of)) journal

-- a run that merged nothing has no history
outcome_none : (words : List (List ℕ)) (Image : Images) (back : Option (List Group)) (old new : Story) (history : List ℕ) (s : Status) → history ≡ [] → Comes words Image back old new [] s → Comes words Image back old new history s
outcome_none words Image back old new history s none comes = subst (λ (h : List ℕ). Comes words Image back old new h s) (sym none) comes

-- ---- a plan that is only shown, and one without groups

shown_asks : (words : List (List ℕ)) (opening m : Map) (Image : Images) (ps : List Installed) (text : List ℕ) (plan : List Group) (s : Status) → IsRecovered opening m → IsToShow words m ps text plan → (s ≡ status.Ok 0) ⊎ (s ≡ status.OutputFault) → Asks words opening Image [] s
shown_asks words opening m Image ps text plan s recovered is (inl ok) = subst (Asks words opening Image []) (sym ok) (is.asked, is.is, (m, recovered, inr ((is.found, is.in_map, is.only), refl)))
shown_asks words opening m Image ps text plan s recovered is (inr fault) = subst (Asks words opening Image []) (sym fault) tt

rest_asks : (words : List (List ℕ)) (opening m : Map) (Image : Images) (ps : List Installed) (plan : List Group) → IsRecovered opening m → IsChoice words m ps plan [] → plan ≡ [] → Asks words opening Image [] (status.Ok 0)
rest_asks words opening m Image ps plan recovered (found, chosen, same, jobs) none =
    let empty : found.chosen.plan ≡ [] = same ∙ none in (
      chosen.asked,
      chosen.is,
      (m, recovered, inl (record { found = found; ready = chosen.ready; jobs = []; are = jobs; asks = (sym (ap (λ (p : List Group). upto (length p)) empty), sym (ap (λ (p : List Group). length p) empty)) })),
    )

-- what was shown, or couldn't be written, isn't told of the words
shown_not_of_words : (s : Status) → (s ≡ status.Ok 0) ⊎ (s ≡ status.OutputFault) → IsOfWords s → ⊥
shown_not_of_words s (inl ok) of = subst IsOfWords ok of
shown_not_of_words s (inr fault) of = subst IsOfWords fault of

shown_keeps : (old new : Story) (s : Status) → (s ≡ status.Ok 0) ⊎ (s ≡ status.OutputFault) → KeepsJournal old new s
shown_keeps old new s (inl ok) = subst (KeepsJournal old new) (sym ok) tt
shown_keeps old new s (inr fault) = subst (KeepsJournal old new) (sym fault) tt

module _ (words : List (List ℕ)) (Image : Images) (back : Option (List Group)) (old mid : Story) (history : List ℕ) (none : history ≡ []) where
  pub outcome_shown : (ps : List Installed) (text : List ℕ) (plan : List Group) (s : Status) → HasRecovered old mid → IsToShow words mid.now.holds ps text plan → (s ≡ status.Ok 0) ⊎ (s ≡ status.OutputFault) → Comes words Image back old mid history s
  outcome_shown ps text plan s has is ends =
      outcome_none words Image back old mid history s none (outcome_over words Image back old mid s has (shown_not_of_words s ends) (shown_keeps old mid s ends)
      (shown_asks words old.now.holds mid.now.holds Image ps text plan s has.recovered is ends))

  pub outcome_rest : (ps : List Installed) (plan : List Group) → HasRecovered old mid → IsChoice words mid.now.holds ps plan [] → plan ≡ [] → Comes words Image back old mid history (status.Ok 0)
  outcome_rest ps plan has choice empty =
      outcome_none words Image back old mid history (status.Ok 0) none (outcome_over words Image back old mid (status.Ok 0) has (λ of. of) tt
      (rest_asks words old.now.holds mid.now.holds Image ps plan has.recovered choice empty))

  pub outcome_unfound : (s : Status) → EndsEarly words old mid s → IsEarly s → Comes words Image back old mid history s
  outcome_unfound s ends early = outcome_none words Image back old mid history s none (outcome_early words Image back old mid s early ends)

-- ---- a run that merges a plan

module _ (words : List (List ℕ)) (opening m : Map) (Image : Images) (history : List ℕ) (asked : Asked) (is : IsRequest words asked) (recovered : IsRecovered opening m) where
  -- the answer of its merge is one of the run
  merge_asks : (ps : List Installed) (plan : List Group) (js : List Job) (s : Status) → AsksMerge Image ps plan js m history s → AsksPlan asked m Image history s → Asks words opening Image history s
  merge_asks ps plan js (status.Ok groups) asks whole = (asked, is, (m, recovered, inl whole))
  merge_asks ps plan js (status.Usage fault) asks whole = absurd asks
  merge_asks ps plan js (status.BadText path line) asks whole = absurd asks
  merge_asks ps plan js (status.BadDatabase fault) asks whole = absurd asks
  merge_asks ps plan js (status.BadJournal fault) asks whole = absurd asks
  merge_asks ps plan js (status.Inconsistent fault) asks whole = absurd asks
  merge_asks ps plan js (status.NoCandidate atom reasons) asks whole = absurd asks
  merge_asks ps plan js (status.NoSolution dead) asks whole = absurd asks
  merge_asks ps plan js (status.BacktrackLimit refuted dead) asks whole = absurd asks
  merge_asks ps plan js (status.PlanRefused fault) asks whole = absurd asks
  merge_asks ps plan js (status.BuildCycle packages) asks whole = absurd asks
  merge_asks ps plan js (status.NoOrder fault) asks whole = absurd asks
  merge_asks ps plan js (status.Collision c) asks whole = (asked, is, (m, recovered, whole))
  merge_asks ps plan js (status.BadImage b) asks whole = (asked, is, (m, recovered, whole))
  merge_asks ps plan js (status.BuildFailed id) asks whole = (asked, is, (m, recovered, whole))
  merge_asks ps plan js status.DeviceFault asks whole = tt
  merge_asks ps plan js status.OutputFault asks whole = tt
  merge_asks ps plan js (status.Limit quantity) asks whole = inr (asked, is, (m, recovered, whole))
  merge_asks ps plan js status.Memory asks whole = tt
  merge_asks ps plan js (status.NotBuilt what) asks whole = absurd asks

-- a run whose plan was merged
module _ (words : List (List ℕ)) (Image : Images) (old mid new : Story) (ps : List Installed) (plan : List Group) (js : List Job) (history : List ℕ) (s : Status)
    (has : HasRecovered old mid) (choice : IsChoice words mid.now.holds ps plan js) (asks : AsksMerge Image ps plan js mid.now.holds history s) (of : IsOfMerge s) (merged : MergedTo Image ps plan js mid new history s) where
  abbrev m : Map
  m = mid.now.holds

  -- what the run merges
  abbrev merges : Course (IsChoice words) Image old.now.holds
  merges = record { tree = m; recovered = has.recovered; packages = ps; plan = plan; jobs = js; chosen = choice; made = merged.made }

  abbrev Reached : List ℕ → Map → Type 0
  Reached among c = IsReached old.now (Some merges) among c

  whole : IsChosenFor words m ps choice.0 → AsksPlan choice.1.asked m Image history s
  whole chosen = record {
    found = choice.0;
    ready = choice.1.ready;
    jobs = js;
    are = choice.3;
    asks = subst (λ (p : List Group). AsksMerge Image choice.0.packages.items p js m history s) (sym choice.2) (subst (λ (qs : List Installed). AsksMerge Image qs plan js m history s) chosen.packages asks);
  }

  answered : Asks words old.now.holds Image history s
  answered =
      let chosen = choice.1 in
      merge_asks words old.now.holds m Image history chosen.asked chosen.is has.recovered ps plan js s asks (whole chosen)

  pub outcome_merged : (back : Option (List Group)) → back ≡ Some plan → Comes words Image back old new history s
  outcome_merged back same = (
    answered,
    record {
      course = Some merges;
      plan = same;
      moments = since_then (Reached []) old mid new (since_weaker (IsImageOrAlike old.now) (Reached []) (λ c h. inl (refl, h)) old mid has.moments)
          (since_weaker (RecoversWith (AreMade merged.made) m []) (Reached []) (λ c h. inr h) mid new merged.moments);
      crash = λ c k. inr (merged.crash c k);
      left = λ healthy. inr (merged.left healthy);
      tree = λ of_tree. inr (merged.tree (λ e. subst IsOfTree e of_tree) (λ e. subst IsOfTree e of_tree));
      unchanged = λ of_words. absurd (merge_not_of_words s of of_words);
      journal = merge_keeps old new s of;
    },
  )
