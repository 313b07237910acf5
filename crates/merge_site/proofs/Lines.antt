-- The stage that a group places next, and the line that it writes.
use Rattle.std.proofs.Common.{◌≡◌, ◌<◌, ◌++◌, ◌∙◌, ℕ, List, Result, Ok, Err, ap, subst, sym, length, take}
use Rattle.std.specs.Prelude.{IsTrue, OnOk, is_ok, slice_index_or}
use Rattle.merge_journal.specs.Names.{stage_path}
use Rattle.merge_core.specs.Core.{standing_in}
use Rattle.merge_core.specs.CoreValue.{CoreValue}
use Rattle.merge_site.specs.declared.group.SiteGroup.{SiteGroup}
use Rattle.merge_site.specs.Site.{AreInStep, JobValue, Writes}
use Rattle.merge_site.proofs.Reading.{got, indexed}

-- the stage of the group's next placement
pub stage_is : (xs : List SiteGroup) (ps : List JobValue) (k : CoreValue) (g : ℕ) (p : JobValue) (i : ℕ) (q : List ℕ) → AreInStep k xs ps → g < length k.standings → p ≡ slice_index_or ps g p → q ≡ stage_path p.group i
    → i ≡ (standing_in k.standings g).placed → q ≡ stage_path g (standing_in k.standings g).placed
stage_is xs ps k g p i q step lt there path at =
    let number = step.numbered g p (got ps g p (subst (λ (n : ℕ). g < n) (sym step.payloads_all) lt) there) in
    path ∙ (ap (λ (n : ℕ). stage_path n i) number ∙ ap (stage_path g) at)

if_ok : {A E : Type 0} (r : Result A E) (P : Type 0) → OnOk r P → IsTrue (is_ok r) → P
if_ok (Ok a) P h t = h
if_ok (Err e) P h t = absurd (cc t)

-- the line of the group was written
pub line_written : {A E : Type 0} (xs : List SiteGroup) (g : ℕ) (y : SiteGroup) (r : Result A E) (old new bytes : List ℕ) → y ≡ slice_index_or xs g y → bytes ≡ y.line.items → OnOk r (new ≡ old ++ bytes)
    → (n : ℕ) × (new ≡ old ++ take n bytes) → Writes xs g (is_ok r) old new
line_written xs g y r old new bytes there line ok moved = record {
  whole = λ t x at. if_ok r (new ≡ old ++ bytes) ok t ∙ ap (λ (l : List ℕ). old ++ l) (line ∙ ap (λ (z : SiteGroup). z.line.items) (indexed xs g y x there at));
  part = λ x at. (moved.0, moved.1 ∙ ap (λ (l : List ℕ). old ++ take moved.0 l) (line ∙ ap (λ (z : SiteGroup). z.line.items) (indexed xs g y x there at)));
}
