-- What a crash at any moment since an earlier one may leave.
use Rattle.std.specs.Prelude.{◌≡◌, List, [], ◌∷◌, ◌++◌, ⊤}
use Rattle.file_tree.specs.Disk.{Map, Disk, Story, IsImage}

-- a crash of this disk leaves what has P
abbrev pub Leaves : (Map → Type 0) → Disk → Type 0
Leaves P d = (c : Map) → IsImage d c → P c

abbrev pub EachLeaves : (Map → Type 0) → List Disk → Type 0
EachLeaves P [] = ⊤
EachLeaves P (d ∷ ds) = Leaves P d × EachLeaves P ds

-- a crash at any moment since the old story leaves what has P
pub record Since (P : Map → Type 0) (old new : Story) : Type 0 where
  pub between : List Disk
  pub grows : new.past ≡ old.past ++ between
  pub each : EachLeaves P between
  pub now : Leaves P new.now
