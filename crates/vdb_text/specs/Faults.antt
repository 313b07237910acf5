-- The first fault of a map that has no database.
use Rattle.std.specs.Prelude.{◌≡◌, ◌⊎◌, ℕ, List, ◌∷◌, ◌++◌}
use Rattle.std.specs.declared.cmp.Ordering.TheVariants.{Less}
use Rattle.basics.specs.Members.{Has}
use Rattle.pms_names.specs.Flags.{byte_order}
use Rattle.dep_atom.specs.Ids.{IsId, IsNoId, id_text}
use Rattle.dep_atom.specs.declared.package.PackageId.{PackageId}
use Rattle.file_tree.specs.Disk.{Map}
use Rattle.file_tree.specs.declared.fault.TreeFault.TheVariants as trees
use Rattle.vdb_law.specs.Database.{IsDatabase, folder}
use Rattle.vdb_law.specs.Fields.{eapi}
use Rattle.vdb_law.specs.Packages.{Installed}
use Rattle.vdb_record.specs.Faults as records
use Rattle.vdb_record.specs.Texts.{folder_texts}
use Rattle.vdb_record.specs.Views.{field_of}
use Rattle.vdb_record.specs.declared.fault.RecordFault.{RecordFault}
use Rattle.vdb_record.specs.declared.fault.RecordFault.TheVariants as record_faults
use Rattle.vdb_overlap.specs.Overlaps.{IsFirst}
use Rattle.vdb_overlap.specs.declared.overlap.Overlap.{Overlap}
use Rattle.vdb_overlap.specs.declared.overlap.Overlap.TheVariants as overlaps
use Rattle.vdb_text.specs.Folders.{IsFolder}
use Rattle.vdb_text.specs.Limits.{AreMany, AreWithin}
use Rattle.vdb_text.specs.Owned.{IsAbove, IsOwnedBelow, IsOwnedTwice}
use Rattle.vdb_text.specs.Telling.{Tells, file_path, folder_path}
use Rattle.vdb_text.specs.declared.fault.DatabaseFault.{DatabaseFault}
use Rattle.vdb_text.specs.declared.fault.DatabaseFault.TheVariants.{Name, Missing, Eapi, Text, Dep, Limit, OwnedTwice, Nested, Tree}

-- a fault of a record, by the path of its file in the folder of this text
abbrev pub located : List ℕ → RecordFault → DatabaseFault
located text (record_faults.Missing file) = Missing (file_path text (field_of file))
located text record_faults.Eapi = Eapi (file_path text eapi)
located text (record_faults.Text file line) = Text (file_path text (field_of file)) line
located text (record_faults.Dep file at) = Dep (file_path text (field_of file)) at
located text record_faults.Memory = Tree trees.Memory

-- no package has the folder of this text, and its path is told
pub record IsBadName (text : List ℕ) (fault : DatabaseFault) : Type 0 where
  pub nameless : IsNoId text
  pub told : fault ≡ Name (folder_path text)

-- a package has the folder of this text, and the first fault of its record is told
pub record IsBadRecord (m : Map) (text : List ℕ) (fault : DatabaseFault) : Type 0 where
  pub id : PackageId
  pub is : IsId id
  pub named : text ≡ id_text id
  pub first : RecordFault
  pub of : records.FirstFault (folder_texts (folder m id)) first
  pub told : fault ≡ located text first

-- the first fault of the folder of this text
abbrev pub FolderFault : Map → List ℕ → DatabaseFault → Type 0
FolderFault m text fault = IsBadName text fault ⊎ IsBadRecord m text fault

-- in byte order of the folders the first that tells no package has this fault
pub record IsFirstBadFolder (m : Map) (fault : DatabaseFault) : Type 0 where
  pub text : List ℕ
  pub there : IsFolder m text
  pub before : (t : List ℕ) → IsFolder m t → byte_order t text ≡ Less →
      (p : Installed) × Tells m t p
  pub has : FolderFault m text fault

-- the same of the folders of a list, by their places
pub record IsFirstOf (m : Map) (texts : List (List ℕ)) (fault : DatabaseFault) : Type 0 where
  pub front : List (List ℕ)
  pub text : List ℕ
  pub behind : List (List ℕ)
  pub is : texts ≡ front ++ (text ∷ behind)
  pub before : (t : List ℕ) → Has front t → (p : Installed) × Tells m t p
  pub has : FolderFault m text fault

-- the fault of paths that are in each other's way
abbrev pub overlap_fault : Overlap → DatabaseFault
overlap_fault (overlaps.Twice path) = OwnedTwice path
overlap_fault (overlaps.Nested path below) = Nested path below

-- the first path with two owners; where none has two, the first that is above another, and the
-- first below it
abbrev pub Overlaps : List Installed → DatabaseFault → Type 0
Overlaps ps (OwnedTwice q) = IsFirst (IsOwnedTwice ps) q
Overlaps ps (Nested q s) = ((t : List ℕ) → ¬ IsOwnedTwice ps t)
    × IsFirst (IsAbove ps) q × IsFirst (IsOwnedBelow ps q) s
Overlaps ps fault = ⊥

-- the fault tells what there is too much of with these packages
abbrev pub ArePast : List Installed → DatabaseFault → Type 0
ArePast ps (Limit quantity) = AreMany ps quantity
ArePast ps fault = ⊥

-- the map has a database, and this fault tells what there is too much of
pub record HasTooMuch (m : Map) (fault : DatabaseFault) : Type 0 where
  pub packages : List Installed
  pub database : IsDatabase m packages
  pub past : ArePast packages fault

-- the map has a database within the limits, and this fault tells how its packages are in each
-- other's way
pub record IsUntidy (m : Map) (fault : DatabaseFault) : Type 0 where
  pub packages : List Installed
  pub database : IsDatabase m packages
  pub within : AreWithin packages
  pub overlaps : Overlaps packages fault

-- the first fault of a map: that of its first bad folder, else that it has too much, else that of
-- its packages
abbrev pub FirstFault : Map → DatabaseFault → Type 0
FirstFault m fault = IsFirstBadFolder m fault ⊎ (HasTooMuch m fault ⊎ IsUntidy m fault)
