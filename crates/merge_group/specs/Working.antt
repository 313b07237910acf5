-- One group of a site on its way, step by step.
use Rattle.std.specs.Prelude.{◌≡◌, ◌++◌, ℕ, Bool, true, false, List, [], ◌∷◌, length, map, ⊤}
use Rattle.std.specs.List.{AllByRecursion, flat_map}
use Rattle.file_tree.specs.Disk.{Map}
use Rattle.file_tree.specs.ObjectValue.{ObjectValue}
use Rattle.file_tree.specs.declared.objects.Entry.{Entry}
use Rattle.merge_journal.specs.Group.{Group}
use Rattle.merge_core.specs.Core.{standing_in}
use Rattle.merge_core.specs.Event.{Abandon, Acknowledge, Begin, Claim, CloseGate, Event, OpenGate}
use Rattle.merge_core.specs.Event.{PlacePath, PutRecord, PutStage, PutToken, RemovePath}
use Rattle.merge_core.specs.Event.{SyncClosed, SyncGate, SyncPlaced, SyncSealed, answered}
use Rattle.merge_core.specs.CoreValue.{machine_of}
use Rattle.merge_core.specs.Phase.{Phase, Building, Claimed, Done, Emptied, GatePut, GateTaken}
use Rattle.merge_core.specs.Phase.{Idle, Marked, Odd, Open, Placed, Recorded, Redo, Redone, Sealed}
use Rattle.merge_core.specs.Phase.{is_live, may_end, was_opened}
use Rattle.merge_core.specs.Roll.{Machine, Standing, group_of, idle, phase_at, stood}
use Rattle.merge_core.specs.Trail as trail
use Rattle.merge_core.specs.Trail.{machine_after}
use Rattle.merge_group.specs.declared.files.Files.{Files}
use Rattle.owner_book.specs.declared.wish.Wish.{Wish}
use Rattle.merge_site.specs.Booking.{wishes_at}
use Rattle.merge_site.specs.Site.{SiteValue}
use Rattle.merge_site.specs.Staging.{placement_of}

-- the group of an event
abbrev pub group_of_event : Event → ℕ
group_of_event (Begin g) = g
group_of_event (PutStage g p o) = g
group_of_event (PutRecord g removals) = g
group_of_event (PutToken g) = g
group_of_event (SyncSealed g) = g
group_of_event (Claim g) = g
group_of_event (OpenGate g) = g
group_of_event (SyncGate g) = g
group_of_event (PlacePath g) = g
group_of_event (RemovePath g) = g
group_of_event (SyncPlaced g) = g
group_of_event (CloseGate g) = g
group_of_event (SyncClosed g) = g
group_of_event (Acknowledge g) = g
group_of_event (Abandon g) = g

-- the group of the event stands at the phase that the event asks for
abbrev pub IsInTurn : Machine → Event → Type 0
IsInTurn m (Begin g) = phase_at m.roll g ≡ Idle
IsInTurn m (PutStage g p o) = phase_at m.roll g ≡ Building
IsInTurn m (PutRecord g removals) = phase_at m.roll g ≡ Building
IsInTurn m (PutToken g) = phase_at m.roll g ≡ Recorded
IsInTurn m (SyncSealed g) = phase_at m.roll g ≡ Marked
IsInTurn m (Claim g) = phase_at m.roll g ≡ Sealed
IsInTurn m (OpenGate g) = phase_at m.roll g ≡ Claimed
IsInTurn m (SyncGate g) = phase_at m.roll g ≡ GatePut
IsInTurn m (PlacePath g) = phase_at m.roll g ≡ Open
IsInTurn m (RemovePath g) = phase_at m.roll g ≡ Open
IsInTurn m (SyncPlaced g) = phase_at m.roll g ≡ Open
IsInTurn m (CloseGate g) = phase_at m.roll g ≡ Placed
IsInTurn m (SyncClosed g) = phase_at m.roll g ≡ GateTaken
IsInTurn m (Acknowledge g) = phase_at m.roll g ≡ Done
IsInTurn m (Abandon g) = may_end (phase_at m.roll g) ≡ true

-- each event came in its group's turn
abbrev pub AreInTurn : Machine → List trail.Entry → Type 0
AreInTurn m [] = ⊤
AreInTurn m (e ∷ es) = IsInTurn m e.0 × AreInTurn (answered m e.0 e.1) es

-- the events of a site led to its machine, each in its group's turn
pub record IsRun {T S : Type 0} (a : SiteValue T S) : Type 0 where
  pub leads : machine_after idle a.events ≡ machine_of a.keeping
  pub turns : AreInTurn idle a.events

-- a group in this phase takes no more stages
abbrev pub is_staged : Phase → Bool
is_staged Idle = false
is_staged Building = false
is_staged p = true

-- how far a group of a site has come
abbrev pub standing_at : {T S : Type 0} → SiteValue T S → ℕ → Standing
standing_at a g = standing_in a.keeping.standings g

-- no other group of the site is under way from its claim until its closed gate is durable
abbrev pub IsAlone : {T S : Type 0} → ℕ → SiteValue T S → Type 0
IsAlone g a = (h : ℕ) → ¬ (h ≡ g) → is_live (standing_at a h).phase ≡ false

-- the map with the groups of a site that are in the tree for good
abbrev pub stood_at : {T S : Type 0} → Map → SiteValue T S → Map
stood_at opening a = stood opening (machine_of a.keeping).roll

-- events of one group, each in its turn, led from one machine to the other
pub record Stretch (g : ℕ) (old : Machine) (es : List trail.Entry) (new : Machine) : Type 0 where
  pub mine : AllByRecursion (λ e. group_of_event e.0 ≡ g) es
  pub turns : AreInTurn old es
  pub leads : machine_after old es ≡ new

-- no other group wishes anything new, nor does this one once its record is put
pub record KeepsWishes {T S : Type 0} (g : ℕ) (old new : SiteValue T S) : Type 0 where
  pub rows : length new.wishes ≡ length old.wishes
  pub others : (h : ℕ) → ¬ (h ≡ g) → wishes_at new.wishes h ≡ wishes_at old.wishes h
  pub mine : is_staged (standing_at old g).phase ≡ true →
      (is_staged (standing_at new g).phase ≡ true) ×
      (wishes_at new.wishes g ≡ wishes_at old.wishes g)

-- a stretch of events of one group of a site
pub record Works {T S : Type 0} (g : ℕ) (old new : SiteValue T S) : Type 0 where
  pub events : List trail.Entry
  pub adds : new.events ≡ old.events ++ events
  pub stretch : Stretch g (machine_of old.keeping) events (machine_of new.keeping)
  pub others : (h : ℕ) → ¬ (h ≡ g) → standing_at new h ≡ standing_at old h
  pub count : length new.keeping.standings ≡ length old.keeping.standings
  pub wishes : KeepsWishes g old new
  pub groups : new.groups ≡ old.groups
  pub opened_book : new.opened_book ≡ old.opened_book
  pub opened : new.opened ≡ old.opened

abbrev pub object_of : Entry → ObjectValue
object_of e = e.object

-- what a group is to change: the paths that go, the files that come, and who is to own each of them
pub record Changes : Type 0 where
  pub removals : List (List ℕ)
  pub files : List Entry
  pub wishes : List Wish

-- the group with this number that makes these changes
abbrev pub changing : ℕ → Changes → Group
changing g c = record {
  content = record {
    group = g;
    removals = c.removals;
    placements = map placement_of c.files;
  };
  objects = map object_of c.files;
}

-- the group with this number that places these files and removes nothing
abbrev pub placing : ℕ → List Entry → Group
placing g files = record {
  content = record { group = g; removals = []; placements = map placement_of files };
  objects = map object_of files;
}

-- all that a package places, in the order in which it is staged
abbrev pub all_in : Files → List Entry
all_in files = files.image.items ++ files.folder.items

-- all that some packages place: each one's image and then the files of its own folder, package by
-- package
abbrev pub all_of : List Files → List Entry
all_of packages = flat_map all_in packages

-- the standing has staged these files, and removes nothing
pub record HasStaged (files : List Entry) (s : Standing) : Type 0 where
  pub removals : s.removals ≡ []
  pub placements : s.placements ≡ map placement_of files
  pub objects : s.objects ≡ map object_of files

-- what the group of a site does so far
abbrev pub group_in : {T S : Type 0} → SiteValue T S → ℕ → Group
group_in a g = group_of g (standing_at a g)

-- no gate of a group in this phase may hold anything, and none of its paths is being changed
abbrev pub is_shut : Phase → Bool
is_shut GatePut = false
is_shut Open = false
is_shut Placed = false
is_shut GateTaken = false
is_shut Redo = false
is_shut Redone = false
is_shut Odd = false
is_shut Emptied = false
is_shut p = true

-- a group asked for its claim, and was granted it or not: all that it has, and the groups in the
-- tree, are the same, and its gate was never opened
pub record Claims {T S : Type 0} (g : ℕ) (old new : SiteValue T S) : Type 0 where
  pub works : Works g old new
  pub order : new.keeping.order ≡ old.keeping.order
  pub group : group_in new g ≡ group_in old g
  pub shut : is_shut (standing_at new g).phase ≡ true
  pub unopened : was_opened (standing_at new g).phase ≡ false
