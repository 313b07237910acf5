-- What recovery makes of a crash image whose open groups are in form.
use Rattle.std.specs.Prelude.{◌≡◌, ℕ, true, false, List, Some, None, Ok, slice_get}
use Rattle.basics.specs.Members.{Has}
use Rattle.file_tree.specs.Disk.{Map}
use Rattle.file_tree.specs.Paths.{is_below}
use Rattle.merge_record.specs.RecordValue.{RecordValue}
use Rattle.merge_journal.specs.Judging.{footprint, judged_open}
use Rattle.merge_journal.specs.Names.{stage_path}
use Rattle.file_tree.specs.Fixed.{jobs}
use Rattle.merge_record.specs.declared.record.Placement.{Placement}

-- Each placed path of an open group holds its staged object, each removed path none, nothing is
-- below the journal's folder, and all else is as in the image.
pub record IsRecovered (c m : Map) : Type 0 where
  pub records : List RecordValue
  pub form : judged_open c ≡ Ok records
  pub placed : (r : RecordValue) → Has records r → (i : ℕ) (p : Placement) →
      slice_get r.placements i ≡ Some p → m p.path ≡ c (stage_path r.group i)
  pub removed : (r : RecordValue) → Has records r → (q : List ℕ) → Has r.removals q → m q ≡ None
  pub cleared : (q : List ℕ) → is_below jobs q ≡ true → m q ≡ None
  pub others : (q : List ℕ) → is_below jobs q ≡ false →
      ((r : RecordValue) → Has records r → ¬ Has (footprint r) q) → m q ≡ c q
