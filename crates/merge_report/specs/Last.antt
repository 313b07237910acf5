-- What is written of the last line of a run, and the status that it ends with then.
use Rattle.std.specs.Prelude.{◌≡◌, ◌⊎◌, ℕ, List}
use Rattle.file_tree.specs.Output.{IsBeginning}
use Rattle.merge_report.specs.Texts.{last_line}
use Rattle.merge_report.specs.declared.status.Status.{Status}
use Rattle.merge_report.specs.declared.status.Status.TheVariants as status

-- what a status becomes where its last line can't be written
abbrev pub unwritten : Status → Status
unwritten status.DeviceFault = status.DeviceFault
unwritten _ = status.OutputFault

-- a run that came to one status ends with it, and its last line is there; or, where the output
-- failed, it ends as one whose last line can't be written, and some beginning of that line is there
abbrev pub IsLast : (failed : Type 0) → Status → Status → List ℕ → Type 0
IsLast failed came s text = ((s ≡ came) × (text ≡ last_line came))
    ⊎ (failed × (s ≡ unwritten came) × IsBeginning (last_line came) text)

-- the same, where want of memory may come in place of the status
abbrev pub IsEnd : (failed : Type 0) → Status → Status → List ℕ → Type 0
IsEnd failed came s text = IsLast failed came s text ⊎ IsLast failed status.Memory s text
