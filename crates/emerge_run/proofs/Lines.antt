-- What a run writes, from its groups' lines to its last line.
use Rattle.std.proofs.Common.{◌≡◌, ◌≤◌, ℕ, Bool, List, [], ◌∷◌, ◌++◌, inl, inr, refl, ap, sym, ◌∙◌, subst, append_assoc, append-nil, length, take}
use Rattle.file_tree.specs.Disk.{Map, Rose}
use Rattle.merge_group.specs.Lines.{AreLines}
use Rattle.file_tree.specs.Output.{Wrote}
use Rattle.plan_law.specs.Plans.{Group}
use Rattle.run_turns.specs.Plans.{line_for}
use Rattle.run_turns.specs.declared.job.Job.{Job}
use Rattle.emerge_run.specs.Builds.{line_of}
use Rattle.emerge_run.specs.Outcomes.{IsDone, IsEarly, IsNamed, IsShownAs}
use Rattle.emerge_run.specs.Output.{IsCut, IsOutput, IsSaid, merging, showing, silent}
use Rattle.merge_report.specs.Last.{IsEnd}
use Rattle.merge_report.specs.declared.status.Status.{Status}
use Rattle.merge_report.specs.declared.status.Status.TheVariants as status

-- a run that found no plan wasn't done
undone_early : (s : Status) → IsEarly s → IsDone s → ⊥
undone_early (status.Ok groups) early of = early
undone_early (status.Usage fault) early of = of
undone_early (status.BadText path line) early of = of
undone_early (status.BadDatabase fault) early of = of
undone_early (status.BadJournal fault) early of = of
undone_early (status.Inconsistent fault) early of = of
undone_early (status.NoCandidate atom reasons) early of = of
undone_early (status.NoSolution dead) early of = of
undone_early (status.BacktrackLimit refuted dead) early of = of
undone_early (status.PlanRefused fault) early of = of
undone_early (status.BuildCycle packages) early of = of
undone_early (status.NoOrder fault) early of = of
undone_early (status.Collision c) early of = of
undone_early (status.BadImage b) early of = of
undone_early (status.BuildFailed id) early of = of
undone_early status.DeviceFault early of = of
undone_early status.OutputFault early of = of
undone_early (status.Limit quantity) early of = of
undone_early status.Memory early of = of
undone_early (status.NotBuilt what) early of = of

pub all_of_it : (text : List ℕ) → take (length text) text ≡ text
all_of_it [] = refl
all_of_it (b ∷ bs) = ap (λ (l : List ℕ). b ∷ l) (all_of_it bs)

-- before a group there is no line
no_line : (failed : Type 0) (line : ℕ → List ℕ) → AreLines failed line [] [] []
no_line failed line = record { rest = []; order = refl; cut = []; begun = (0, refl); uncut = inl refl; whole = refl }

-- the lines of the jobs are those of the plan
pub wrote_lines : (failed : Type 0) (jobs : List Job) (plan : List Group) (history acknowledged old new : List ℕ) → ((n : ℕ) → line_for jobs n ≡ line_of plan n) → Wrote (AreLines failed (line_for jobs) history acknowledged) old new
    → Wrote (AreLines failed (line_of plan) history acknowledged) old new
wrote_lines failed jobs plan history acknowledged old new same (text, are, e) =
    let line : ◌≡◌ {A = ℕ → List ℕ} (line_for jobs) (line_of plan) = λ i n. same n i in
    (text, subst (λ (f : ℕ → List ℕ). AreLines failed f history acknowledged text) line are, e)

module _ (failed : Type 0) (words : List (List ℕ)) (tells : Bool) (opening : Map) where
  abbrev Said : List ℕ → List ℕ → Status → List ℕ → Type 0
  Said = IsSaid failed words tells opening

  -- a run that merges has written lines of its plan's groups
  pub wrote_merging : (plan : List Group) (history acknowledged : List ℕ) (came : Status) (old new : List ℕ) → IsNamed words tells opening plan
      → Wrote (AreLines failed (line_of plan) history acknowledged) old new → Wrote (Said history acknowledged came) old new
  wrote_merging plan history acknowledged came old new named (text, are, e) =
      (text, merging (named.asked, named.is, named.done) (record { plan = plan; named = named; lines = are }), e)

  -- one whose plan has no group none
  pub wrote_resting : (plan : List Group) (history acknowledged : List ℕ) (came : Status) (old new : List ℕ) → IsNamed words tells opening plan → history ≡ [] → acknowledged ≡ [] → new ≡ old → Wrote (Said history acknowledged came) old new
  wrote_resting plan history acknowledged came old new named none none' same =
      wrote_merging plan history acknowledged came old new named
      ([], subst (λ (h : List ℕ). AreLines failed (line_of plan) h acknowledged []) (sym none) (subst (λ (a : List ℕ). AreLines failed (line_of plan) [] a []) (sym none') (no_line failed (line_of plan))), same ∙ sym (append-nil old))

  -- one that shows a plan its text, so far as that could be written
  pub wrote_showing : (shown history acknowledged : List ℕ) (came : Status) (old new : List ℕ) → IsShownAs words tells opening shown → history ≡ []
      → Wrote (IsCut failed shown came) old new → Wrote (Said history acknowledged came) old new
  wrote_showing shown history acknowledged came old new is none (text, cut, e) = (text, showing none (shown, is, cut), e)

  -- one that found no plan nothing
  pub wrote_nothing : (history acknowledged : List ℕ) (came : Status) (old new : List ℕ) → IsEarly came → history ≡ [] → new ≡ old
      → Wrote (Said history acknowledged came) old new
  wrote_nothing history acknowledged came old new early none same =
      ([], silent none (undone_early came early) refl, same ∙ sym (append-nil old))

  -- where there is no memory for its last line, a run has said what it said
  said_memory : (history acknowledged : List ℕ) (came : Status) (text : List ℕ) → Said history acknowledged came text → Said history acknowledged status.Memory text
  said_memory history acknowledged came text (merging asks lines) = merging asks lines
  said_memory history acknowledged came text (showing none (shown, is, (cut, whole, uncut))) = showing none (shown, is, (cut, (λ of. absurd of), uncut))
  said_memory history acknowledged came text (silent none undone is) = silent none (λ of. of) is

-- what was said and then the last line
module _ (words : List (List ℕ)) (tells : Bool) (opening : Map) (before between now : ℕ) (from : before ≤ between) (up : between ≤ now) where
  pub wrote_all : (IsAnswer : Status → Type 0) (history acknowledged : List ℕ) (came s : Status) (old mid new : List ℕ) → IsAnswer came → IsAnswer status.Memory
      → Wrote (IsSaid (Rose before between) words tells opening history acknowledged came) old mid → Wrote (IsEnd (Rose between now) came s) mid new
      → Wrote (IsOutput before now words tells opening IsAnswer history acknowledged s) old new
  wrote_all IsAnswer history acknowledged came s old mid new answer memory (lines, said, begun) (last, inl ends, second) = (
    lines ++ last,
    record { lines = lines; came = came; between = between; first = from; rest = up; said = said; answer = answer; last = last; ends = ends; whole = refl },
    second ∙ (ap (λ (x : List ℕ). x ++ last) begun ∙ append_assoc old lines last),
  )
  wrote_all IsAnswer history acknowledged came s old mid new answer memory (lines, said, begun) (last, inr ends, second) = (
    lines ++ last,
    record {
      lines = lines;
      came = status.Memory;
      between = between;
      first = from;
      rest = up;
      said = said_memory (Rose before between) words tells opening history acknowledged came lines said;
      answer = memory;
      last = last;
      ends = ends;
      whole = refl;
    },
    second ∙ (ap (λ (x : List ℕ). x ++ last) begun ∙ append_assoc old lines last),
  )
