-- The installed packages of a tree, and when the tree keeps what they recorded.
use Rattle.std.specs.Prelude.{◌≡◌, ◌||◌, ◌==◌, ℕ, Bool, true, false, List, ◌∷◌, ◌++◌, Option, Some, codes, map, slice_index, IsSome}
use Rattle.std.specs.List.{list_any}
use Rattle.md5.specs.Md5.{md5}
use Rattle.basics.specs.Members.{Has}
use Rattle.pms_names.specs.Flags.{IsRising}
use Rattle.dep_atom.specs.Ids.{IsId, id_text}
use Rattle.dep_atom.specs.declared.package.PackageId.{PackageId}
use Rattle.file_tree.specs.Disk.{Map}
use Rattle.file_tree.specs.Paths.{is_below}
use Rattle.file_tree.specs.ObjectValue.{ObjectValue}
use Rattle.file_tree.specs.declared.objects.Kind.TheVariants as kinds
use Rattle.vdb_paths.specs.Files.{package_file_path}
use Rattle.vdb_law.specs.Fields.{Folder, Says, is_file}
use Rattle.vdb_contents.specs.declared.owned.Content.{Content}
use Rattle.vdb_contents.specs.declared.owned.Content.TheVariants.{File, Link}
use Rattle.vdb_contents.specs.declared.owned.Owned.{Owned}
use Rattle.vdb_law.specs.Packages.{Installed, id_of, paths}

-- the package's own folder
abbrev pub folder : Map → PackageId → Folder
folder m id name = m (package_file_path id name)

-- the database skips folders whose names begin with a hyphen or a full stop
abbrev pub is_skipped : List ℕ → Bool
is_skipped name = slice_index name 0 == 45 || slice_index name 0 == 46

abbrev pub has_slash : List ℕ → Bool
has_slash text = list_any (λ b. b == 47) text

-- the text is the name of a folder that counts
pub record IsFolderName (text : List ℕ) : Type 0 where
  pub part : has_slash text ≡ false
  pub taken : is_skipped text ≡ false

-- the path is in a folder of the database that counts
pub record IsCounted (path : List ℕ) : Type 0 where
  pub category : List ℕ
  pub pf : List ℕ
  pub name : List ℕ
  pub is : path ≡ codes "var/db/pkg/" ++ (category ++ (47 ∷ (pf ++ (47 ∷ name))))
  pub category-counts : IsFolderName category
  pub pf-counts : IsFolderName pf

-- the path is in this package's folder
abbrev pub IsOf : PackageId → List ℕ → Type 0
IsOf id path = (name : List ℕ) × (path ≡ package_file_path id name)

abbrev pub folder_name : Installed → List ℕ
folder_name p = id_text (id_of p)

-- the map's database: these packages, in byte order of their folders
pub record IsDatabase (m : Map) (ps : List Installed) : Type 0 where
  pub rising : IsRising (map folder_name ps)
  pub ids : (p : Installed) → Has ps p → IsId (id_of p)
  pub says : (p : Installed) → Has ps p → Says (folder m (id_of p)) p
  pub all : (q : List ℕ) → IsCounted q → IsSome (m q) →
      (p : Installed) × Has ps p × IsOf (id_of p) q

-- an object is as it was recorded
abbrev pub Holds : Option ObjectValue → Content → Type 0
Holds x (File digest) =
    (t : ObjectValue) × (x ≡ Some t) × ((is_file t.kind ≡ true) × (md5 t.bytes ≡ digest))
Holds x (Link target) = x ≡ Some (record { kind = kinds.Link; bytes = target })

-- no path has two owners, and none is above another
pub record IsTidy (ps : List Installed) : Type 0 where
  pub once : (p r : Installed) (q : List ℕ) → Has ps p → Has ps r → Has (paths p) q →
      Has (paths r) q → p ≡ r
  pub flat : (p r : Installed) (q s : List ℕ) → Has ps p → Has ps r → Has (paths p) q →
      Has (paths r) s → is_below q s ≡ false

-- each path holds what its owner recorded
abbrev pub AreHeld : Map → List Installed → Type 0
AreHeld m ps = (p : Installed) (o : Owned) → Has ps p → Has p.owned o → Holds (m o.path) o.content

-- the tree keeps its database
pub record IsKept (m : Map) (ps : List Installed) : Type 0 where
  pub tidy : IsTidy ps
  pub held : AreHeld m ps
