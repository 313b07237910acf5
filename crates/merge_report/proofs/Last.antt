-- What becomes of the last line of a run.
use Rattle.std.proofs.Common.{◌≡◌, ℕ, List, ◌++◌, inl, inr, refl, ap, take}
use Rattle.file_tree.specs.Output.{Wrote}
use Rattle.merge_report.specs.Last.{IsEnd, IsLast, unwritten}
use Rattle.merge_report.specs.Texts.{last_line}
use Rattle.merge_report.specs.declared.status.Status.{Status}
use Rattle.merge_report.specs.declared.status.Status.TheVariants as status

-- only a device's fault stays where its last line can't be written
pub unwritten_other : (s : Status) → (s ≡ status.DeviceFault → ⊥) → unwritten s ≡ status.OutputFault
unwritten_other status.DeviceFault other = absurd (other refl)
unwritten_other s other = refl

-- the last line, whole
pub last_whole : (failed : Type 0) (s : Status) (line old new : List ℕ) → line ≡ last_line s → new ≡ old ++ line → Wrote (IsLast failed s s) old new
last_whole failed s line old new is wrote = (line, inl (refl, is), wrote)

-- the last line could not be written
pub last_cut : (failed : Type 0) (came s : Status) (line old new : List ℕ) → failed → line ≡ last_line came → s ≡ unwritten came → ((n : ℕ) × (new ≡ old ++ take n line)) → Wrote (IsLast failed came s) old new
last_cut failed came s line old new fails is falls (n, wrote) = (take n line, inr (fails, falls, (n, ap (take n) is)), wrote)

pub end_itself : (failed : Type 0) (came s : Status) (old new : List ℕ) → Wrote (IsLast failed came s) old new → Wrote (IsEnd failed came s) old new
end_itself failed came s old new (text, last, e) = (text, inl last, e)

pub end_memory : (failed : Type 0) (came s : Status) (old new : List ℕ) → Wrote (IsLast failed status.Memory s) old new → Wrote (IsEnd failed came s) old new
end_memory failed came s old new (text, last, e) = (text, inr last, e)
