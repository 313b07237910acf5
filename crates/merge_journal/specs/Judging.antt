-- When the open groups of a crash image are in form, and the first that isn't.
use Rattle.std.specs.Prelude.{◌≡◌, ◌==◌, ◌<◌, ◌^◌, ◌&&◌, ◌||◌, ◌++◌, ℕ, suc, Bool, true, false, not, length, map, List, [], ◌∷◌, Option, Some, None, Result, Ok, Err, bytes_eq, slice_get, if◌then◌else◌, ⊤}
use Rattle.basics.specs.Members.{AreDistinct, Has}
use Rattle.file_tree.specs.Disk.{Map}
use Rattle.file_tree.specs.Fixed.{jobs}
use Rattle.file_tree.specs.PathSets.{is_in}
use Rattle.file_tree.specs.Paths.{is_below}
use Rattle.file_tree.specs.ObjectValue.{ObjectValue}
use Rattle.md5.specs.Md5.{md5}
use Rattle.merge_record.specs.RecordValue.{RecordValue}
use Rattle.merge_journal.specs.Names.{record_path, stage_path}
use Rattle.merge_journal.specs.Open.{open_groups}
use Rattle.merge_record.specs.Reading.{record_of}
use Rattle.merge_record.specs.Spelling.{byte_of}
use Rattle.merge_journal.specs.declared.fault.JudgeFault.{JudgeFault}
use Rattle.merge_journal.specs.declared.fault.JudgeFault.TheVariants as faults
use Rattle.merge_record.specs.declared.fault.DecodeFault.{DecodeFault}
use Rattle.merge_record.specs.declared.fault.DecodeFault.TheVariants as record_faults
use Rattle.merge_record.specs.declared.record.Placement.{Placement}

infixl 10 ◌>>=◌
abbrev pub ◌>>=◌ : {A B : Type 0} → Result A JudgeFault → (A → Result B JudgeFault) →
    Result B JudgeFault
(Ok x) >>= f = f x
(Err e) >>= f = Err e

-- equal to the journal's folder, above it or below it
abbrev pub meets_jobs : List ℕ → Bool
meets_jobs p = bytes_eq p jobs || (is_below jobs p || is_below p jobs)

abbrev pub path_of : Placement → List ℕ
path_of p = p.path

-- the paths of a record, its removals and then its placements
abbrev pub footprint : RecordValue → List (List ℕ)
footprint r = r.removals ++ map path_of r.placements

-- a path that neither meets the journal nor is taken
abbrev pub is_free : List (List ℕ) → List ℕ → Bool
is_free taken p = not (meets_jobs p || is_in taken p)

-- each path is free where those before it are taken too
unfoldable pub are_free : List (List ℕ) → List (List ℕ) → Bool
are_free taken [] = true
are_free taken (p ∷ ps) = is_free taken p && are_free (p ∷ taken) ps

-- an object of the recorded kind, length and digest
unfoldable pub is_staged : Option ObjectValue → Placement → Bool
is_staged None p = false
is_staged (Some o) p = (byte_of o.kind == byte_of p.kind) &&
    ((length o.bytes == p.length) && bytes_eq (md5 o.bytes) p.md5)

-- the record that an object is; whatever object stands there, its bytes are read
unfoldable pub record_in : Option ObjectValue → Result RecordValue DecodeFault
record_in None = Err record_faults.Short
record_in (Some o) = record_of o.bytes

-- what was read, as the verdict on a group
unfoldable pub record_read : ℕ → Result RecordValue DecodeFault → Result RecordValue JudgeFault
record_read g (Ok r) = Ok r
record_read g (Err e) = Err (faults.BadRecord g)

-- the record is the group's, and its paths are free
unfoldable pub paths_judged : List (List ℕ) → ℕ → RecordValue → Result ⊤ JudgeFault
paths_judged taken g r =
    if (r.group == g) && are_free taken (footprint r) then Ok tt else Err (faults.BadRecord g)

-- the stages of placements from an index on, or the first that isn't as recorded
unfoldable pub stages_judged : Map → ℕ → ℕ → List Placement → Result ⊤ JudgeFault
stages_judged c g i [] = Ok tt
stages_judged c g i (p ∷ ps) = if is_staged (c (stage_path g i)) p then stages_judged c g
    (suc i) ps else Err (faults.BadStage g i)

-- the record of an open group that is in form, or why it isn't, where these paths are taken by
-- lower groups
unfoldable pub judged : Map → List (List ℕ) → ℕ → Result RecordValue JudgeFault
judged c taken g = do
  r ← record_read g (record_in (c (record_path g)))
  free ← paths_judged taken g r
  staged ← stages_judged c g 0 r.placements
  Ok r

-- the records of these groups, or the first fault
unfoldable pub judged_all : Map → List (List ℕ) → List ℕ → Result (List RecordValue) JudgeFault
judged_all c taken [] = Ok []
judged_all c taken (g ∷ gs) = do
  r ← judged c taken g
  rs ← judged_all c (taken ++ footprint r) gs
  Ok (r ∷ rs)

-- the records of the open groups, or the first fault
unfoldable pub judged_open : Map → Result (List RecordValue) JudgeFault
judged_open c = judged_all c [] (open_groups c)

-- the paths of each record are apart and outside the journal, and its stages have numbers
abbrev pub AreApplicable : List RecordValue → Type 0
AreApplicable rs = (r : RecordValue) → Has rs r →
    (are_free [] (footprint r) ≡ true) × (length r.placements < 2 ^ 32)

-- what a call answered, seen by view, is the verdict, unless the device failed or memory ran out
abbrev pub Misses : {Y : Type 0} → JudgeFault → Result Y JudgeFault → Type 0
Misses (faults.Tree of) verdict = ⊤
Misses (faults.BadRecord g) verdict = verdict ≡ Err (faults.BadRecord g)
Misses (faults.BadStage g i) verdict = verdict ≡ Err (faults.BadStage g i)

abbrev pub Agrees : {X Y : Type 0} → (X → Y) → Result X JudgeFault → Result Y JudgeFault → Type 0
Agrees view (Ok x) verdict = verdict ≡ Ok (view x)
Agrees view (Err e) verdict = Misses e verdict

-- an object as a placement tells it
pub record IsStaged (x : Option ObjectValue) (p : Placement) : Type 0 where
  pub object : ObjectValue
  pub there : x ≡ Some object
  pub kind : object.kind ≡ p.kind
  pub size : length object.bytes ≡ p.length
  pub digest : md5 object.bytes ≡ p.md5

-- a group whose gate is open is in form, with this record, where these paths are taken by lower
-- groups
pub record IsGroupInForm (c : Map) (taken : List (List ℕ)) (g : ℕ) (r : RecordValue) : Type 0 where
  pub reads : record_in (c (record_path g)) ≡ Ok r
  pub number : r.group ≡ g
  pub distinct : AreDistinct (footprint r)
  pub outside : (q : List ℕ) → Has (footprint r) q → meets_jobs q ≡ false
  pub free : (q : List ℕ) → Has (footprint r) q → ¬ Has taken q
  pub stages : (i : ℕ) (p : Placement) → slice_get r.placements i ≡ Some p →
      IsStaged (c (stage_path g i)) p
