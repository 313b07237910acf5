-- How a run of groups over a tree at rest ended.
use Rattle.std.specs.Prelude.{◌≡◌, ℕ, suc, List, [], IsErrOf, Result, length, map, take}
use Rattle.basics.specs.Members.{Has}
use Rattle.file_tree.specs.Disk.{Story}
use Rattle.file_tree.specs.Moments.{Leaves, Since}
use Rattle.file_tree.specs.declared.fault.TreeFault.TheVariants as trees
use Rattle.merge_journal.specs.Group.{Group, with_groups}
use Rattle.merge_core.specs.Core.{standing_in}
use Rattle.merge_core.specs.CoreValue.{CoreValue}
use Rattle.merge_core.specs.Roll.{resting}
use Rattle.recovery.specs.Phases.{IsShut}
use Rattle.merge_group.specs.Applied.{AreOf, LeavesWith, ReadsWith, RecoversWith, number}
use Rattle.merge_group.specs.declared.stop.Stop.{Stop}
use Rattle.merge_group.specs.declared.stop.Stop.TheVariants as stops

-- Each crash image of each moment recovers to the tree from before with the groups of such a run
-- applied, and at the end all groups of the history are among these. Unless the device failed it is
-- just these; unless memory ran out either, the tree reads so, and nothing is unsynced.
pub record WentWith {A : Type 0} (Run : List Group → Type 0) (old new : Story) (history : List ℕ)
    (end : Result A Stop) : Type 0 where
  pub moments : Since (RecoversWith Run old.now.holds []) old new
  pub crash : Leaves (RecoversWith Run old.now.holds history) new.now
  pub left : ¬ IsErrOf end (stops.Tree trees.Failed) → LeavesWith Run old.now.holds history new.now
  pub tree : ¬ IsErrOf end (stops.Tree trees.Failed) → ¬ IsErrOf end (stops.Tree trees.Memory) →
      ReadsWith Run old.now.holds history new.now

-- the same where a run is any list of groups that are all of one kind
abbrev pub Went : {A : Type 0} → (Group → Type 0) → Story → Story → List ℕ → Result A Stop → Type 0
Went Of = WentWith (AreOf Of)

-- the machine of so many groups with this history: of these it has begun only those of the history
-- and the next one, and no other
pub record HaveRun (gs : List ℕ) (n : ℕ) (history : List ℕ) (k : CoreValue) : Type 0 where
  pub order : history ≡ map number k.order
  pub count : length k.standings ≡ n
  pub rest : (h : ℕ) → ¬ Has (take (suc (length history)) gs) h →
      standing_in k.standings h ≡ resting

-- The same before the journal is cleared: unless the device failed no gate is open over the tree
-- with just the groups of the history.
pub record DroveWith {A : Type 0} (Run : List Group → Type 0) (old new : Story)
    (history : List ℕ) (end : Result A Stop) : Type 0 where
  pub moments : Since (RecoversWith Run old.now.holds []) old new
  pub crash : Leaves (RecoversWith Run old.now.holds history) new.now
  pub shut : ¬ IsErrOf end (stops.Tree trees.Failed) → (groups : List Group) × Run groups ×
      ((map number groups ≡ history) × IsShut (λ q. with_groups groups q (old.now.holds q)) new.now)
