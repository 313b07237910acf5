-- What the book and a group's wishes have to do with packages.
use Rattle.std.specs.Prelude.{◌≡◌, ◌⊎◌, ℕ, Bool, true, false, List, Option, Some, map, IsSome}
use Rattle.basics.specs.Members.{AreDistinct, Has}
use Rattle.file_tree.specs.Disk.{Map}
use Rattle.merge_journal.specs.Judging.{path_of}
use Rattle.merge_record.specs.declared.record.OwnerKey.{OwnerKey}
use Rattle.owner_book.specs.Book as books
use Rattle.owner_book.specs.declared.wish.Wish.{Wish}
use Rattle.vdb_paths.specs.Files.{package_file_path}
use Rattle.vdb_law.specs.Database.{IsOf}
use Rattle.vdb_law.specs.Fields.{contents, name_of}
use Rattle.vdb_law.specs.Packages.{Installed, id_of, paths}
use Rattle.vdb_law.specs.Step.{Change, Owns, Puts, Removes, put}

-- the owners are the packages of the map: each path that a package owns has its key, and each
-- owner's key is that of a package which owns the path
pub record OwnersAre (key : Installed → OwnerKey) (m : Map) (ps : List Installed)
    (own : List ℕ → Option OwnerKey) : Type 0 where
  pub mine : (p : Installed) (q : List ℕ) → Has ps p → Owns m p q → own q ≡ Some (key p)
  pub only : (q : List ℕ) (k : OwnerKey) → own q ≡ Some k →
      (p : Installed) × Has ps p × Owns m p q × (key p ≡ k)

-- the wish is for a path that the package records, or for a file of its own folder
abbrev pub IsWishOf : Installed → Wish → Type 0
IsWishOf a w =
    ((w.folder ≡ false) × Has (paths a) w.path) ⊎ ((w.folder ≡ true) × IsOf (id_of a) w.path)

-- a group wishes what its change brings, each path with the key of its package; it puts just these
-- paths, and no two packages that come have one key
pub record Wishes (key : Installed → OwnerKey) (c : Change) (ws : List Wish) : Type 0 where
  pub placed : map path_of c.does.content.placements ≡ map books.path_of ws
  pub each : (w : Wish) → Has ws w → (a : Installed) × Has c.added a × (w.owner ≡ key a)
      × IsWishOf a w
  pub recorded : (a : Installed) (q : List ℕ) → Has c.added a → Has (paths a) q →
      (w : Wish) × Has ws w × (w.path ≡ q) × (w.owner ≡ key a)
  pub marked : (a : Installed) → Has c.added a →
      (w : Wish) × Has ws w × (w.path ≡ package_file_path (id_of a) (name_of contents))
      × (w.owner ≡ key a)
  pub put : (w : Wish) → Has ws w → IsSome (put c.does w.path)
  pub keys : AreDistinct (map key c.added)

-- a group does what its change says: it wishes what comes, its record removes what goes, and the
-- packages that go have the dying keys
pub record Tells (key : Installed → OwnerKey) (m : Map) (ps : List Installed) (c : Change)
    (dying : OwnerKey → Bool) (ws : List Wish) : Type 0 where
  pub wishes : Wishes key c ws
  pub removes : Removes m ps c.gone c.does
  pub puts : Puts c.added c.does
  pub dies : (p : Installed) → Has ps p → dying (key p) ≡ c.gone p
