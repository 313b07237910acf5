-- A group of changes, and what it makes of a map.
use Rattle.std.specs.Prelude.{◌≡◌, ℕ, Bool, true, List, [], ◌∷◌, Option, Some, None, Ok, bytes_eq, slice_get, ⊤, if◌then◌else◌}
use Rattle.basics.specs.Members.{Has}
use Rattle.file_tree.specs.Disk.{Map}
use Rattle.file_tree.specs.Paths.{is_below}
use Rattle.file_tree.specs.ObjectValue.{ObjectValue, plain}
use Rattle.merge_record.specs.RecordValue.{RecordValue}
use Rattle.merge_journal.specs.Judging.{IsStaged, are_free, footprint, record_in}
use Rattle.file_tree.specs.PathSets.{is_in}
use Rattle.merge_journal.specs.Names.{record_path, stage_path}
use Rattle.file_tree.specs.Fixed.{jobs}
use Rattle.merge_journal.specs.Open.{open_groups}
use Rattle.merge_record.specs.declared.record.Placement.{Placement}

-- what a group removes and places, and the object of each placement
pub record Group : Type 0 where
  pub content : RecordValue
  pub objects : List ObjectValue

-- what an open gate holds
abbrev pub token : ObjectValue
token = plain (1 ∷ [])

-- each placement has its object
abbrev pub AreStaged : List Placement → List ObjectValue → Type 0
AreStaged [] [] = ⊤
AreStaged [] (o ∷ os) = ⊥
AreStaged (p ∷ ps) [] = ⊥
AreStaged (p ∷ ps) (o ∷ os) = IsStaged (Some o) p × AreStaged ps os

-- a group whose paths are apart and outside the journal, and each placement of which has its object
pub record IsGroup (g : Group) : Type 0 where
  pub free : are_free [] (footprint g.content) ≡ true
  pub staged : AreStaged g.content.placements g.objects

-- what the placements make of what stands at a path
abbrev pub with_placements : List Placement → List ObjectValue → List ℕ → Option ObjectValue →
    Option ObjectValue
with_placements [] os q x = x
with_placements (p ∷ ps) [] q x = x
with_placements (p ∷ ps) (o ∷ os) q x =
    with_placements ps os q (if bytes_eq q p.path then Some o else x)

-- what the group makes of what stands at a path: first its removals, then its placements
abbrev pub with_group : Group → List ℕ → Option ObjectValue → Option ObjectValue
with_group g q x =
    with_placements g.content.placements g.objects q
    (if is_in g.content.removals q then None else x)

-- the path is one of the group's
abbrev pub covers : Group → List ℕ → Bool
covers g q = is_in (footprint g.content) q

-- what the groups make of what stands at a path, one after the other
abbrev pub with_groups : List Group → List ℕ → Option ObjectValue → Option ObjectValue
with_groups [] q x = x
with_groups (g ∷ gs) q x = with_groups gs q (with_group g q x)

-- the map with the groups applied, and nothing below the journal's folder
abbrev pub applied : Map → List Group → Map
applied m gs q = if is_below jobs q then None else with_groups gs q (m q)

-- the group's record and stages stand in the journal
pub record IsFiled (c : Map) (g : Group) : Type 0 where
  pub reads : record_in (c (record_path g.content.group)) ≡ Ok g.content
  pub stages : (i : ℕ) (o : ObjectValue) → slice_get g.objects i ≡ Some o →
      c (stage_path g.content.group i) ≡ Some o

-- the groups of these numbers, and their records
abbrev pub groups : (ℕ → Group) → List ℕ → List Group
groups f [] = []
groups f (n ∷ ns) = f n ∷ groups f ns

abbrev pub contents : (ℕ → Group) → List ℕ → List RecordValue
contents f [] = []
contents f (n ∷ ns) = (f n).content ∷ contents f ns

-- each group whose gate is open stands in the journal, and no two of them have a path in common
pub record AreInForm (c : Map) (f : ℕ → Group) : Type 0 where
  pub number : (n : ℕ) → Has (open_groups c) n → (f n).content.group ≡ n
  pub good : (n : ℕ) → Has (open_groups c) n → IsGroup (f n)
  pub filed : (n : ℕ) → Has (open_groups c) n → IsFiled c (f n)
  pub apart : (n m : ℕ) (q : List ℕ) → Has (open_groups c) n → Has (open_groups c) m →
      covers (f n) q ≡ true → covers (f m) q ≡ true → n ≡ m
