-- What a site shows, and what it promises between two calls.
use Rattle.std.specs.Prelude.{◌≡◌, ◌⊎◌, ◌<◌, ◌≤◌, ◌-◌, ◌++◌, ◌∷◌, ℕ, zero, suc, Bool, true, false, List, [], Some, IsTrue, length, replicate, slice_get, take}
use Rattle.file_tree.specs.Disk.{Disk, Map, Story}
use Rattle.file_tree.specs.ObjectValue.{ObjectValue}
use Rattle.merge_journal.specs.Group.{covers, token}
use Rattle.merge_journal.specs.Names.{gate_path, record_path, stage_path, token_path}
use Rattle.merge_core.specs.Core.{standing_in}
use Rattle.owner_book.specs.Book.{Book}
use Rattle.owner_book.specs.declared.wish.Wish.{Wish}
use Rattle.merge_core.specs.Event.{Event, PutStage, answered, begun}
use Rattle.merge_core.specs.CoreValue.{CoreValue, at_rest, machine_of}
use Rattle.merge_core.specs.Order.{IsInOrder}
use Rattle.merge_core.specs.Phase.{Idle, is_live}
use Rattle.merge_core.specs.Roll.{Machine, Roll, RecoversCommitted, group_at, idle, phase_at}
use Rattle.merge_core.specs.Trail.{Entry, Trail, machine_after}
use Rattle.merge_site.specs.declared.group.SiteGroup.{SiteGroup}

-- what a site keeps of one group: its number, and how many of its stages have a path
pub record JobValue : Type 0 where
  pub group : ℕ
  pub staged : ℕ

abbrev pub new_payload : ℕ → JobValue
new_payload g = record { group = g; staged = 0 }

-- the payloads of so many groups that haven't begun
abbrev pub new_payloads : ℕ → List JobValue
new_payloads zero = []
new_payloads (suc n) = new_payloads n ++ new_payload n ∷ []

-- the machine, the events so far, the groups and what each wishes, the book and the tree at the
-- beginning and now, and the sink
pub record SiteValue (T S : Type 0) : Type 0 where
  pub keeping : CoreValue
  pub events : List Entry
  pub groups : List SiteGroup
  pub wishes : List (List Wish)
  pub opened_book : Book
  pub book : Book
  pub opened : T
  pub tree : T
  pub sink : S

-- a site with the groups, the tree and the book of another one
pub record IsSameSite {T S : Type 0} (old new : SiteValue T S) : Type 0 where
  pub count : length new.keeping.standings ≡ length old.keeping.standings
  pub groups : new.groups ≡ old.groups
  pub opened_book : new.opened_book ≡ old.opened_book
  pub opened : new.opened ≡ old.opened

-- the events led from the start to here, in order, and each crash image of each moment since then
-- stands
pub record IsHeld (keeping : CoreValue) (events : List Entry) (start now : Story) : Type 0 where
  pub order : IsInOrder start.now.holds (machine_of keeping) now.now
  pub trail : Trail start.now.holds idle start events now

-- a crash left this map while one of the events was under way, or behind them: it recovers to the
-- opening with the groups applied that were committed then, with all that were settled
abbrev pub StoodDuring : Map → Machine → List Entry → Map → Type 0
StoodDuring opening m [] c = RecoversCommitted opening m.roll c
StoodDuring opening m (e ∷ es) c =
    RecoversCommitted opening (begun m e.0).roll c ⊎ StoodDuring opening (answered m e.0 e.1) es c

-- some disk is in order with the machine: what a site over a tree that tells nothing keeps
pub record IsPossible (keeping : CoreValue) : Type 0 where
  pub opening : Map
  pub disk : Disk
  pub order : IsInOrder opening (machine_of keeping) disk

-- no path is one of two groups under way
abbrev pub AreApart : Roll → Type 0
AreApart r = (g h : ℕ) (q : List ℕ) →
    is_live (phase_at r g) ≡ true → is_live (phase_at r h) ≡ true →
    covers (group_at r g) q ≡ true → covers (group_at r h) q ≡ true → g ≡ h

-- each group has its own number
abbrev pub AreNumbered : List JobValue → Type 0
AreNumbered payloads = (i : ℕ) (p : JobValue) → slice_get payloads i ≡ Some p → p.group ≡ i

-- each placement of a group has a path for its stage
abbrev pub HavePaths : CoreValue → List JobValue → Type 0
HavePaths k payloads = (i : ℕ) (p : JobValue) → slice_get payloads i ≡ Some p →
    length (standing_in k.standings i).placements ≤ p.staged

-- a group that hasn't begun places nothing
abbrev pub AreFresh : CoreValue → Type 0
AreFresh k = (i : ℕ) → (standing_in k.standings i).phase ≡ Idle →
    (standing_in k.standings i).placements ≡ []

-- the groups of a site, each with its number and its paths
pub record AreInStep
    (k : CoreValue) (groups : List SiteGroup) (payloads : List JobValue) : Type 0 where
  pub numbered : AreNumbered payloads
  pub paths : HavePaths k payloads
  pub fresh : AreFresh k
  pub payloads_all : length payloads ≡ length k.standings
  pub groups_all : length groups ≡ length k.standings

-- what a site promises between two calls
pub record IsSiteInOrder (tells : Bool) (keeping : CoreValue) (events : List Entry)
    (groups : List SiteGroup) (payloads : List JobValue) (start now : Story)
    (mark : ObjectValue) : Type 0 where
  pub leads : machine_after idle events ≡ machine_of keeping
  pub step : AreInStep keeping groups payloads
  pub is_token : mark ≡ token
  pub possible : IsPossible keeping
  pub held : IsTrue tells → IsHeld keeping events start now

-- an event that stages an object
abbrev pub is_stage : Event → Bool
is_stage (PutStage g p o) = true
is_stage e = false

-- one event more: the machine goes on as it says, and a group wishes more only where it stages
pub record Adds {T S : Type 0} (old new : SiteValue T S) (e : Event) (ok : Bool) : Type 0 where
  pub events : new.events ≡ old.events ++ (e, ok) ∷ []
  pub machine : machine_of new.keeping ≡ answered (machine_of old.keeping) e ok
  pub count : length new.keeping.standings ≡ length old.keeping.standings
  pub groups : new.groups ≡ old.groups
  pub wishes : is_stage e ≡ false → new.wishes ≡ old.wishes
  pub opened_book : new.opened_book ≡ old.opened_book
  pub opened : new.opened ≡ old.opened

-- no event came, and the book is as it was
pub record KeepsHistory {T S : Type 0} (old new : SiteValue T S) : Type 0 where
  pub keeping : new.keeping ≡ old.keeping
  pub events : new.events ≡ old.events
  pub groups : new.groups ≡ old.groups
  pub wishes : new.wishes ≡ old.wishes
  pub opened_book : new.opened_book ≡ old.opened_book
  pub book : new.book ≡ old.book
  pub opened : new.opened ≡ old.opened

-- the line of a group was written, or where that failed a part of it
pub record Writes
    (groups : List SiteGroup) (group : ℕ) (ok : Bool) (old new : List ℕ) : Type 0 where
  pub whole : IsTrue ok → (x : SiteGroup) → slice_get groups group ≡ Some x →
      new ≡ old ++ x.line.items
  pub part : (x : SiteGroup) → slice_get groups group ≡ Some x →
      (n : ℕ) × (new ≡ old ++ take n x.line.items)

-- how many placements, and how many removals, of a group aren't made yet
abbrev pub placements_left : CoreValue → ℕ → ℕ
placements_left k g =
    length (standing_in k.standings g).placements - (standing_in k.standings g).placed

abbrev pub removals_left : CoreValue → ℕ → ℕ
removals_left k g =
    length (standing_in k.standings g).removals - (standing_in k.standings g).removed

-- the paths of a group's files in the journal
pub record AreFilesOf
    (group : ℕ) (gate changes token : List ℕ) (stages : List (List ℕ)) : Type 0 where
  pub of_gate : gate ≡ gate_path group
  pub of_changes : changes ≡ record_path group
  pub of_token : token ≡ token_path group
  pub of_stages : (i : ℕ) → i < length stages → slice_get stages i ≡ Some (stage_path group i)

-- a site over this book, of these groups, none of which has begun or wishes anything
pub record IsOpened {T S : Type 0} (a : SiteValue T S) (b : Book) (groups : List SiteGroup) :
    Type 0 where
  pub keeping : a.keeping ≡ at_rest (length groups)
  pub events : a.events ≡ []
  pub brings : a.groups ≡ groups
  pub wishes : a.wishes ≡ replicate (length groups) []
  pub opened_book : a.opened_book ≡ b
  pub book : a.book ≡ b
  pub opened : a.opened ≡ a.tree
