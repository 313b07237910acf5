-- The gates of a map, and what recovery finds in a journal that it accepts.
use Rattle.std.specs.Prelude.{◌≡◌, ◌↔◌, ◌<◌, ◌≤◌, ◌^◌, ℕ, false, length, List, [], Ok, IsSome}
use Rattle.basics.specs.Members.{Has}
use Rattle.file_tree.specs.Disk.{Map}
use Rattle.merge_record.specs.RecordValue.{RecordValue}
use Rattle.merge_journal.specs.Judging.{judged_open}
use Rattle.merge_journal.specs.Names.{gate_path}
use Rattle.merge_journal.specs.Open.{IsRising, is_open, open_groups}
use Rattle.recovery.specs.declared.limits.TheConstants.{MOST_GATES}

-- the groups whose gate holds an object, rising
pub record AreGates (m : Map) (gs : List ℕ) : Type 0 where
  pub rising : IsRising gs
  pub has : (g : ℕ) → Has gs g ↔ ((g < 2 ^ 32) × IsSome (m (gate_path g)))

-- the gates of too many groups hold an object
abbrev pub HasTooManyGates : Map → Type 0
HasTooManyGates m = (gs : List ℕ) × AreGates m gs × (MOST_GATES < length gs)

-- a group whose gate holds an object, but isn't open
pub record IsOdd (m : Map) (g : ℕ) : Type 0 where
  pub small : g < 2 ^ 32
  pub some : IsSome (m (gate_path g))
  pub odd : is_open (m (gate_path g)) ≡ false

-- the groups whose gate holds an object, but isn't open
abbrev pub AreOdd : Map → List ℕ → Type 0
AreOdd m gs = (g : ℕ) → Has gs g ↔ IsOdd m g

-- the open groups, the record of each, the groups whose gate holds an object, and those of them
-- that aren't open
pub record JournalValue : Type 0 where
  pub opened : List ℕ
  pub records : List RecordValue
  pub gates : List ℕ
  pub odd : List ℕ

-- what was found is so in this map, whose open groups are in form
pub record IsFound (m : Map) (f : JournalValue) : Type 0 where
  pub opened : f.opened ≡ open_groups m
  pub records : judged_open m ≡ Ok f.records
  pub gates : AreGates m f.gates
  pub few : length f.gates ≤ MOST_GATES
  pub odd : AreOdd m f.odd
