-- What a run writes: the lines of its groups, or the plan that it shows, and its last line.
use Rattle.std.specs.Prelude.{◌≡◌, ◌⊎◌, ◌≤◌, ℕ, Bool, true, false, List, [], ◌++◌}
use Rattle.file_tree.specs.Disk.{Map, Rose}
use Rattle.merge_group.specs.Lines.{AreLines}
use Rattle.file_tree.specs.Output.{IsBeginning}
use Rattle.plan_law.specs.Plans.{Group}
use Rattle.merge_report.specs.Last.{IsLast}
use Rattle.merge_report.specs.declared.status.Status.{Status}
use Rattle.emerge_run.specs.Builds.{line_of}
use Rattle.emerge_run.specs.Outcomes.{IsDone, IsNamed, IsShownAs}
use Rattle.emerge_run.specs.Words.{AskToMerge}

-- the lines of the acknowledged groups of a plan, and, where the output failed, a beginning of
-- those of its other groups of the history; P holds of the plan
pub record IsLines (failed : Type 0) (P : List Group → Type 0)
    (history acknowledged text : List ℕ) : Type 0 where
  pub plan : List Group
  pub named : P plan
  pub lines : AreLines failed (line_of plan) history acknowledged text

-- the text, all of it where the command was done; else a beginning, where the output failed
abbrev pub IsCut : (failed : Type 0) → List ℕ → Status → List ℕ → Type 0
IsCut failed shown came text = IsBeginning shown text × (IsDone came → text ≡ shown)
    × ((text ≡ shown) ⊎ failed)

-- the text of a plan that is only shown, so far as it was written
abbrev pub IsShowing : (failed : Type 0) → List (List ℕ) → Bool → Map → Status → List ℕ → Type 0
IsShowing failed words tells opening came text =
    (shown : List ℕ) × IsShownAs words tells opening shown × IsCut failed shown came text

-- What a run has written before its last line: it merges, and these are its lines; or it shows a
-- plan; or nothing, and the command wasn't done. Only where it merges is there a history.
-- Only where the output failed is any of it cut.
pub data IsSaid (failed : Type 0) (words : List (List ℕ)) (tells : Bool) (opening : Map)
    (history acknowledged : List ℕ) (came : Status) (text : List ℕ) : Type 0 where
  merging : AskToMerge words →
      IsLines failed (IsNamed words tells opening) history acknowledged text →
      IsSaid failed words tells opening history acknowledged came text
  showing : history ≡ [] → IsShowing failed words tells opening came text →
      IsSaid failed words tells opening history acknowledged came text
  silent : history ≡ [] → ¬ (IsDone came) → text ≡ [] →
      IsSaid failed words tells opening history acknowledged came text

-- what a run with these answers wrote, while the faults of its output were counted from one number
-- to another: what it had to say, with the faults up to some number between, and then the last line
-- of one of the answers, with the others
pub record IsOutput (before now : ℕ) (words : List (List ℕ)) (tells : Bool) (opening : Map)
    (IsAnswer : Status → Type 0) (history acknowledged : List ℕ) (s : Status) (text : List ℕ) :
    Type 0 where
  pub lines : List ℕ
  pub came : Status
  pub between : ℕ
  pub first : before ≤ between
  pub rest : between ≤ now
  pub said : IsSaid (Rose before between) words tells opening history acknowledged came lines
  pub answer : IsAnswer came
  pub last : List ℕ
  pub ends : IsLast (Rose between now) came s last
  pub whole : text ≡ lines ++ last

-- what a run wrote, with its last line or before that
abbrev pub IsWritten : (last : Bool) → (before now : ℕ) → List (List ℕ) → Bool → Map →
    (Status → Type 0) → List ℕ → List ℕ → Status → List ℕ → Type 0
IsWritten true before now words tells opening IsAnswer history acknowledged s text =
    IsOutput before now words tells opening IsAnswer history acknowledged s text
IsWritten false before now words tells opening IsAnswer history acknowledged s text =
    IsSaid (Rose before now) words tells opening history acknowledged s text
