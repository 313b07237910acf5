-- The folders of a map's database, by their texts.
use Rattle.std.specs.Prelude.{◌≡◌, ◌↔◌, ℕ, List, ◌∷◌, ◌++◌, IsSome}
use Rattle.basics.specs.Members.{Has}
use Rattle.pms_names.specs.Flags.{IsRising}
use Rattle.file_tree.specs.Disk.{Map}
use Rattle.vdb_law.specs.Database.{IsCounted}

-- a category and a name with a version, as the text of a folder
abbrev pub folder_text : List ℕ → List ℕ → List ℕ
folder_text category pf = category ++ (47 ∷ pf)

-- the path is in the folder of these two names, which counts
pub record IsInFolder (category pf path : List ℕ) : Type 0 where
  pub counted : IsCounted path
  pub only : (c : IsCounted path) → (c.category ≡ category) × (c.pf ≡ pf)

-- some of these paths is in the folder of this text, which counts
pub record IsAmong (paths : List (List ℕ)) (text : List ℕ) : Type 0 where
  pub path : List ℕ
  pub listed : Has paths path
  pub counted : IsCounted path
  pub is : text ≡ folder_text counted.category counted.pf

-- something stands in the folder of this text, which counts
pub record IsFolder (m : Map) (text : List ℕ) : Type 0 where
  pub path : List ℕ
  pub there : IsSome (m path)
  pub counted : IsCounted path
  pub is : text ≡ folder_text counted.category counted.pf

-- the folders of the map's database in which something stands, in byte order
pub record AreFolders (m : Map) (texts : List (List ℕ)) : Type 0 where
  pub rising : IsRising texts
  pub members : (t : List ℕ) → Has texts t ↔ IsFolder m t
