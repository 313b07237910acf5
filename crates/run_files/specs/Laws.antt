-- What can be recorded, and who keeps its key.
use Rattle.std.specs.Prelude.{◌≡◌, ℕ, List, [], Option}
use Rattle.file_tree.specs.Disk.{Map}
use Rattle.merge_record.specs.declared.record.OwnerKey.{OwnerKey}
use Rattle.pkg_state.specs.Package.{Package}
use Rattle.vdb_law.specs.Packages.{Installed}
use Rattle.law_commit.specs.Lit.{as_recorded, lit}
use Rattle.law_claim.specs.Owners.{OwnersAre}
use Rattle.law_run.specs.Openings.{key_among}
use Rattle.vdb_files.specs.Recorded.{IsRecordable}
use Rattle.vdb_files.specs.Written.{installed_with}
use Rattle.run_files.specs.Keys.{key_with}

-- the package can be recorded: what it needs and asks of its flags is in form, and what is recorded
-- of it is the package again with the flags on that the run has on for every package
pub record CanBeRecorded (flags : List (List ℕ)) (p : Package) : Type 0 where
  pub needs : IsRecordable (installed_with p [])
  pub enabled : lit flags (as_recorded p) ≡ p

-- The owners of a tree keep their keys beside packages that come.
abbrev pub OwnersKeepTheirKeys : Type 0
OwnersKeepTheirKeys =
    (m : Map) (ps : List Installed) (coming : List Package) (own : List ℕ → Option OwnerKey) →
    OwnersAre (key_among ps) m ps own → OwnersAre (key_with ps coming) m ps own
