-- The paths that each package owns, listed with its key.
use Rattle.std.specs.Prelude.{◌≡◌, ◌↔◌, ◌+◌, ⊤, ℕ, List, [], ◌∷◌, Vec}
use Rattle.std.specs.Global.{Global}
use Rattle.basics.specs.Members.{Has}
use Rattle.file_tree.specs.Disk.{Map}
use Rattle.merge_record.specs.declared.record.OwnerKey.{OwnerKey}
use Rattle.vdb_law.specs.Packages.{Installed}
use Rattle.vdb_law.specs.Step.{Owns}
use Rattle.law_run.specs.Openings.{key_at}

-- a package's key is its place, and just these are the paths that it owns
pub record IsRow (m : Map) (place : ℕ) (p : Installed) (key : OwnerKey)
    (paths : List (List ℕ)) : Type 0 where
  pub keyed : key ≡ key_at place
  pub owned : (q : List ℕ) → Has paths q ↔ Owns m p q

-- a row for each of the packages, which stand from a place on
abbrev pub AreRows : Map → ℕ → List Installed → List (OwnerKey × Vec (List ℕ) Global) → Type 0
AreRows m place [] [] = ⊤
AreRows m place [] (row ∷ rows) = ⊥
AreRows m place (p ∷ ps) [] = ⊥
AreRows m place (p ∷ ps) (row ∷ rows) =
    IsRow m place p row.0 row.1.items × AreRows m (place + 1) ps rows
