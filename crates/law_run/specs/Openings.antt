-- The packages that a run begins with, and who owns what among them.
use Rattle.std.specs.Prelude.{◌≡◌, ℕ, List, [], ◌∷◌, suc, bytes_eq, map, if◌then◌else◌}
use Rattle.file_tree.specs.Disk.{Map}
use Rattle.merge_record.specs.declared.record.OwnerKey.{OwnerKey}
use Rattle.owner_book.specs.Book.{Book, owner_in}
use Rattle.pkg_state.specs.Consistent.{AreConsistent}
use Rattle.law_commit.specs.Lit.{packages_of}
use Rattle.vdb_law.specs.Database.{IsDatabase, IsTidy, folder_name}
use Rattle.vdb_law.specs.Packages.{Installed}
use Rattle.law_claim.specs.Owners.{OwnersAre}

-- these are the packages of the map's database; no two are in each other's way, and they go
-- together with these flags on
pub record HasOpening (flags : List (List ℕ)) (m : Map) (ps : List Installed) : Type 0 where
  pub database : IsDatabase m ps
  pub tidy : IsTidy ps
  pub consistent : AreConsistent (packages_of flags ps)

-- the key of the package at a place
abbrev pub key_at : ℕ → OwnerKey
key_at place = record { number = place }

-- the place of the first text that is this one, or how many there are
abbrev pub place_of : List ℕ → List (List ℕ) → ℕ
place_of text [] = 0
place_of text (one ∷ others) = if bytes_eq text one then 0 else suc (place_of text others)

-- a package's key among these is its place, by its folder
abbrev pub key_among : List Installed → Installed → OwnerKey
key_among ps p = key_at (place_of (folder_name p) (map folder_name ps))

-- nothing is claimed, and the owners are the packages, by their places: each owns the paths that it
-- recorded, and the files of its own folder
pub record AreOwners (m : Map) (ps : List Installed) (b : Book) : Type 0 where
  pub unclaimed : b.claims ≡ []
  pub owners : OwnersAre (key_among ps) m ps (owner_in b.owned)
