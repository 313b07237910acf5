-- What a tree at rest holds, and what a crash leaves of it, while groups are merged into it.
use Rattle.std.specs.Prelude.{◌≡◌, ℕ, List, map}
use Rattle.basics.specs.Members.{Has}
use Rattle.file_tree.specs.Disk.{Disk, IsUntouched, Map}
use Rattle.file_tree.specs.Moments.{Leaves}
use Rattle.merge_journal.specs.Group.{Group, applied}
use Rattle.recovery.specs.Promise.{RecoversTo}

-- the number under which a group is merged
abbrev pub number : Group → ℕ
number g = g.content.group

-- all of these groups are of one kind
abbrev pub AreOf : (Group → Type 0) → List Group → Type 0
AreOf Of groups = (x : Group) → Has groups x → Of x

-- recovery makes m of a map, with the groups of such a run applied, those with these numbers among
-- them
pub record RecoversWith (Run : List Group → Type 0) (m : Map) (among : List ℕ) (c : Map) :
    Type 0 where
  pub groups : List Group
  pub of : Run groups
  pub has : (n : ℕ) → Has among n → Has (map number groups) n
  pub is : RecoversTo c (applied m groups)

-- a crash leaves what recovery makes m of, with just the groups of the history applied, in this
-- order
pub record LeavesWith (Run : List Group → Type 0) (m : Map) (history : List ℕ) (d : Disk) :
    Type 0 where
  pub groups : List Group
  pub of : Run groups
  pub are : map number groups ≡ history
  pub each : Leaves (λ c. RecoversTo c (applied m groups)) d

-- the disk reads as m with just the groups of the history applied, in this order, with nothing
-- below the journal's folder, and a crash leaves just that
pub record ReadsWith (Run : List Group → Type 0) (m : Map) (history : List ℕ) (d : Disk) :
    Type 0 where
  pub groups : List Group
  pub of : Run groups
  pub are : map number groups ≡ history
  pub reads : (q : List ℕ) → d.holds q ≡ applied m groups q
  pub untouched : IsUntouched d

-- the same where a run is any list of groups that are all of one kind
abbrev pub Recovers : (Group → Type 0) → Map → List ℕ → Map → Type 0
Recovers Of = RecoversWith (AreOf Of)
