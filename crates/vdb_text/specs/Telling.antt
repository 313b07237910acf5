-- What the folders of a map's database tell of their packages.
use Rattle.std.specs.Prelude.{◌≡◌, ℕ, true, List, ◌∷◌, ◌++◌, codes}
use Rattle.std.specs.List.{AllZip}
use Rattle.basics.specs.Members.{Has}
use Rattle.dep_atom.specs.Ids.{IsId}
use Rattle.file_tree.specs.Disk.{Map}
use Rattle.file_tree.specs.Paths.{is_path}
use Rattle.vdb_law.specs.Database.{folder, folder_name}
use Rattle.vdb_law.specs.Fields.{Field, Says, name_of, text_of}
use Rattle.vdb_law.specs.Packages.{Installed, id_of}
use Rattle.vdb_record.specs.Texts.{Texts}

-- the path of the folder of this text
abbrev pub folder_path : List ℕ → List ℕ
folder_path text = codes "var/db/pkg/" ++ text

-- each of these folders is at a path
abbrev pub AreAtPaths : List (List ℕ) → Type 0
AreAtPaths texts = (t : List ℕ) → Has texts t → is_path (folder_path t) ≡ true

-- the path of a file in the folder of this text
abbrev pub file_path : List ℕ → Field → List ℕ
file_path text k = codes "var/db/pkg/" ++ (text ++ (47 ∷ name_of k))

-- the files in the folder of this text are at paths
abbrev pub HasFilePaths : List ℕ → Type 0
HasFilePaths text = (k : Field) → is_path (file_path text k) ≡ true

-- the texts of the files in the folder of this text
abbrev pub texts_at : Map → List ℕ → Texts
texts_at m text k = text_of (m (file_path text k))

-- the folder of this text tells this package
pub record Tells (m : Map) (text : List ℕ) (p : Installed) : Type 0 where
  pub is : IsId (id_of p)
  pub named : text ≡ folder_name p
  pub says : Says (folder m (id_of p)) p

-- each of these folders tells its package
abbrev pub TellAll : Map → List (List ℕ) → List Installed → Type 0
TellAll m texts ps = AllZip (Tells m) texts ps
