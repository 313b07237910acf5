-- The disks that runs begin with, and what a crash leaves of a disk that a run leaves as it is.
use Rattle.std.specs.Prelude.{◌⊎◌, ℕ, List}
use Rattle.file_tree.specs.Disk.{Disk, IsImage, IsUntouched, Map}
use Rattle.recovery.specs.Promise.{RecoversAlike, RecoversTo}
use Rattle.law_commit.specs.Commits.{IsSoundTree}
use Rattle.vdb_law.specs.Packages.{Installed}

-- a crash image is one of the disk, or recovery makes the same of it and of the disk
abbrev pub IsImageOrAlike : Disk → Map → Type 0
IsImageOrAlike d c = IsImage d c ⊎ RecoversAlike d.holds c

-- runs begin with this disk: a crash leaves what it reads as, and recovery makes this map of it,
-- which is a sound tree with these packages
pub record BeginsWith (flags : List (List ℕ)) (d : Disk) (m : Map) (ps : List Installed) :
    Type 0 where
  pub settled : IsUntouched d
  pub recovers : RecoversTo d.holds m
  pub sound : IsSoundTree flags m ps
