-- How far recovery has come on the disk, by what a crash can't take away.
use Rattle.std.specs.Prelude.{◌≡◌, ◌<◌, ◌^◌, ℕ, false, List, None, Ok, if◌then◌else◌}
use Rattle.file_tree.specs.Disk.{Disk, Fixed, Map}
use Rattle.file_tree.specs.Paths.{is_below}
use Rattle.merge_core.specs.Order.{IsFirm}
use Rattle.merge_core.specs.Recovery.{redone}
use Rattle.merge_record.specs.RecordValue.{RecordValue}
use Rattle.merge_journal.specs.Judging.{judged_open}
use Rattle.merge_journal.specs.Names.{gate_path}
use Rattle.file_tree.specs.Fixed.{jobs}
use Rattle.recovery.specs.Found.{AreGates}

-- the open groups of the map are applied for good, and each odd gate has a record without paths:
-- the gates of these groups may go
pub record IsRedone (a : Map) (gs : List ℕ) (d : Disk) : Type 0 where
  pub records : List RecordValue
  pub form : judged_open a ≡ Ok records
  pub gates : AreGates a gs
  pub firm : IsFirm a (redone a) d

-- outside the journal's folder a crash leaves the map
abbrev pub IsQuiet : Map → Disk → Type 0
IsQuiet m d = (q : List ℕ) → is_below jobs q ≡ false → Fixed d q (m q)

-- no gate holds anything: recovery only clears the journal
pub record IsShut (m : Map) (d : Disk) : Type 0 where
  pub outside : IsQuiet m d
  pub gates : (h : ℕ) → h < 2 ^ 32 → Fixed d (gate_path h) None

-- nothing stands below the journal's folder
abbrev pub cleared : Map → Map
cleared m q = if is_below jobs q then None else m q
