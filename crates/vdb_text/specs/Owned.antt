-- When packages are in each other's way: two own one path, or one path is above another.
use Rattle.std.specs.Prelude.{◌≡◌, ℕ, true, List}
use Rattle.std.specs.List.{flat_map}
use Rattle.basics.specs.Members.{Has}
use Rattle.file_tree.specs.Paths.{is_below}
use Rattle.vdb_law.specs.Packages.{Installed, paths}

-- the paths that these packages own, package by package
abbrev pub all_paths : List Installed → List (List ℕ)
all_paths ps = flat_map paths ps

-- one of the packages owns the path
pub record IsOwned (ps : List Installed) (q : List ℕ) : Type 0 where
  pub owner : Installed
  pub listed : Has ps owner
  pub owns : Has (paths owner) q

-- two of the packages own the path
pub record IsOwnedTwice (ps : List Installed) (q : List ℕ) : Type 0 where
  pub first : IsOwned ps q
  pub second : IsOwned ps q
  pub differ : ¬ (first.owner ≡ second.owner)

-- the second path is owned, and below the first
pub record IsOwnedBelow (ps : List Installed) (q s : List ℕ) : Type 0 where
  pub owned : IsOwned ps s
  pub below : is_below q s ≡ true

-- the path is owned, and so is one below it
pub record IsAbove (ps : List Installed) (q : List ℕ) : Type 0 where
  pub owned : IsOwned ps q
  pub low : List ℕ
  pub under : IsOwnedBelow ps q low
