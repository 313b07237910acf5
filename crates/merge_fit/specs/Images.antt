-- Which objects may be placed, and what keeps one from being put at a path.
use Rattle.std.specs.Prelude.{◌≡◌, ◌⊎◌, ◌≤◌, ℕ, Bool, true, false, List, ◌∷◌, ◌++◌, None, length, nat_le, slice_index, take, IsSome}
use Rattle.std.specs.List.{AllByRecursion}
use Rattle.file_tree.specs.Disk.{HasBelow, Map}
use Rattle.file_tree.specs.Paths.{is_below}
use Rattle.file_tree.specs.declared.objects.Entry.{Entry}
use Rattle.file_tree.specs.declared.objects.Kind.{Kind}
use Rattle.file_tree.specs.declared.objects.Look.{Look}
use Rattle.file_tree.specs.declared.objects.Look.TheVariants.{Folder, Item, Nothing}
use Rattle.file_tree.specs.declared.objects.Kind.TheVariants.{Exec, Link, Plain}
use Rattle.file_link.specs.Targets.{is_target}
use Rattle.merge_record.specs.declared.limits.TheConstants.{MOST_FILE_BYTES}

-- a file that isn't too large, or a link whose target is in form
abbrev pub is_good_by : Kind → List ℕ → Bool
is_good_by Plain bytes = nat_le (length bytes) MOST_FILE_BYTES
is_good_by Exec bytes = nat_le (length bytes) MOST_FILE_BYTES
is_good_by Link bytes = is_target bytes

abbrev pub is_good : Entry → Bool
is_good e = is_good_by e.object.kind e.object.bytes

abbrev pub path_of : Entry → List ℕ
path_of e = e.path

-- a slash stands at a place of the path, and what is before it holds an object
abbrev pub HoldsPart : Map → List ℕ → ℕ → Type 0
HoldsPart m path at = (slice_index path at ≡ 47) × IsSome (m (take at path))

-- the first element that has Q, where those before it have P
pub record IsFirst {A : Type 0} (P Q : A → Type 0) (xs : List A) : Type 0 where
  pub front : List A
  pub here : A
  pub back : List A
  pub is : xs ≡ front ++ here ∷ back
  pub before : AllByRecursion P front
  pub has : Q here

-- no object stands at a path, and some stand below it
abbrev pub IsFolder : Map → List ℕ → Type 0
IsFolder m path = (m path ≡ None) × HasBelow m path

-- an object may be put at a path, which may hold one now or not: none stands above it, and it is no
-- folder
pub record IsClear (m : Map) (held : Bool) (path : List ℕ) : Type 0 where
  pub empty : held ≡ false → m path ≡ None
  pub no_folder : ¬ IsFolder m path
  pub none_above : (q : List ℕ) → is_below q path ≡ true → m q ≡ None

-- q blocks a path: an object above it, or the path itself, where it is a folder or holds an object
-- that it may not
abbrev pub IsBlock : Map → Bool → List ℕ → List ℕ → Type 0
IsBlock m held path q = ((is_below q path ≡ true) × IsSome (m q)) ⊎
    ((q ≡ path) × (((held ≡ false) × IsSome (m path)) ⊎ IsFolder m path))

-- the shortest that blocks it
pub record IsFirstBlock (m : Map) (held : Bool) (path q : List ℕ) : Type 0 where
  pub there : IsBlock m held path q
  pub least : (r : List ℕ) → IsBlock m held path r → length q ≤ length r

-- a path that looks so is no block
abbrev pub is_passed : Look → Bool → Bool
is_passed Nothing held = true
is_passed (Item kind) held = held
is_passed Folder held = false
