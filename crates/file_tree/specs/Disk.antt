-- A disk as a tree reads it, what a crash may leave of it, and the story of all its states.
use Rattle.std.specs.Prelude.{◌≡◌, ◌↔◌, ◌⊎◌, ◌<◌, ◌≤◌, ◌+◌, ◌^◌, ℕ, Bool, true, false, List, [], ◌∷◌, ◌++◌, Option, Some, None, bytes_eq, Contains, IsSome, if◌then◌else◌}
use Rattle.file_tree.specs.ObjectValue.{ObjectValue}
use Rattle.file_tree.specs.Paths.{is_below}
use Rattle.file_tree.specs.declared.objects.Entry.{Entry}
use Rattle.file_tree.specs.declared.objects.Look.{Look}
use Rattle.file_tree.specs.declared.objects.Look.TheVariants.{Nothing, Item, Folder}

-- what each path holds
abbrev pub Map : Type 0
Map = List ℕ → Option ObjectValue

-- the map of some files: at each path the first of them that has it
abbrev pub held_by : List Entry → Map
held_by [] q = None
held_by (e ∷ es) q = if bytes_eq q e.path then Some e.object else held_by es q

-- what each path reads as, and which paths were changed since the last sync
pub record Disk : Type 0 where
  pub holds : List ℕ → Option ObjectValue
  pub touched : List ℕ → Bool

-- the map with one path holding something else
abbrev pub with_path : Map → List ℕ → Option ObjectValue → Map
with_path m p x = λ q. if bytes_eq p q then x else m q

-- one path is changed, and touched by that
abbrev pub write : Disk → List ℕ → Option ObjectValue → Disk
write d p x =
    record {
      holds = with_path d.holds p x;
      touched = λ q. if bytes_eq p q then true else d.touched q;
    }

-- a sync reached the disk
abbrev pub settled : Disk → Disk
settled d = record { holds = d.holds; touched = λ _. false }

-- what a crash may leave: anything at a touched path, and what is read elsewhere
abbrev pub IsImage : Disk → Map → Type 0
IsImage d c = (q : List ℕ) → d.touched q ≡ false → c q ≡ d.holds q

-- a crash now leaves what is read
abbrev pub IsUntouched : Disk → Type 0
IsUntouched d = (q : List ℕ) → d.touched q ≡ false

-- a crash now leaves x at the path
pub record Fixed (d : Disk) (p : List ℕ) (x : Option ObjectValue) : Type 0 where
  pub untouched : d.touched p ≡ false
  pub reads : d.holds p ≡ x

-- a disk, and all its earlier states, the first of them first
pub record Story : Type 0 where
  pub past : List Disk
  pub now : Disk

abbrev pub next : Story → Disk → Story
next s d = record { past = s.past ++ s.now ∷ []; now = d }

-- a call that was asked to change a path, whatever it answered: the path holds anything and is
-- touched, or nothing came of the call
abbrev pub Moves : Story → List ℕ → Story → Type 0
Moves old p new = (new ≡ old) ⊎ ((x : Option ObjectValue) × (new ≡ next old (write old.now p x)))

-- a sync, whatever it answered
abbrev pub Syncs : Story → Story → Type 0
Syncs old new = (new ≡ old) ⊎ (new ≡ next old (settled old.now))

-- the story of a disk that begins with this map and nothing touched
abbrev pub new_story : Map → Story
new_story m = record { past = []; now = record { holds = m; touched = λ _. false } }

-- the story once the path was made to hold x
abbrev pub with_write : Story → List ℕ → Option ObjectValue → Story
with_write s p x = next s (write s.now p x)

-- the story once a failed call touched the path, which holds what it held
abbrev pub with_touch : Story → List ℕ → Story
with_touch s p = with_write s p (s.now.holds p)

-- the story once a sync reached the disk
abbrev pub with_sync : Story → Story
with_sync s = next s (settled s.now)

-- the paths of the map strictly below p are these
abbrev pub Lists : Map → List ℕ → List (List ℕ) → Type 0
Lists m p ps = (q : List ℕ) → Contains ps q ↔ ((is_below p q ≡ true) × IsSome (m q))

-- some object stands below the path
abbrev pub HasBelow : Map → List ℕ → Type 0
HasBelow m p = (q : List ℕ) × (is_below p q ≡ true) × IsSome (m q)

-- what a look at a path answers
abbrev pub Looks : Map → List ℕ → Look → Type 0
Looks m p Nothing = (m p ≡ None) × (¬ HasBelow m p)
Looks m p (Item kind) = (x : ObjectValue) × (m p ≡ Some x) × (x.kind ≡ kind)
Looks m p Folder = (m p ≡ None) × HasBelow m p

-- a count of faults rose; one that stands at the end of its type counts as risen
abbrev pub Rose : ℕ → ℕ → Type 0
Rose before now = (before < now) ⊎ (2 ^ 64 ≤ now + 1)

-- the count of faults never falls, and it rose where the call failed
pub record CountsFault (Fails : Type 0) (before now : ℕ) : Type 0 where
  pub later : before ≤ now
  pub rose : Fails → Rose before now
