-- The text of CONTENTS: a line for each file, link and folder of a package.
use Rattle.std.specs.Prelude.{◌≡◌, suc, ⊤, ◌==◌, ◌&&◌, ◌||◌, nat_lt, ℕ, Bool, true, false, List, [], ◌∷◌, ◌++◌, codes, length, map, take, Some, slice_get, bytes_eq, if◌then◌else◌}
use Rattle.std.specs.List.{AllByRecursion, flat_map, list_all}
use Rattle.hex.specs.Hex.{encode_lower}
use Rattle.basics.specs.Bytes.{is_digit}
use Rattle.basics.specs.Members.{AreDistinct, Has}
use Rattle.file_tree.specs.Paths.{is_below}
use Rattle.file_tree.specs.Fixed.{jobs}
use Rattle.file_tree.specs.Paths.{IsPathText}
use Rattle.file_tree.specs.Fixed.{database_path}
use Rattle.file_link.specs.Targets.{is_target}
use Rattle.file_digest.specs.Digests.{IsDigest}
use Rattle.vdb_contents.specs.declared.fault.ContentsFault.{ContentsFault}
use Rattle.vdb_contents.specs.declared.fault.ContentsFault.TheVariants as faults
use Rattle.vdb_contents.specs.declared.owned.Content.{Content}
use Rattle.vdb_contents.specs.declared.owned.Content.TheVariants.{File, Link}
use Rattle.vdb_contents.specs.declared.owned.Owned.{Owned}

pub data Line : Type 0 where
  obj : (path digest time : List ℕ) → Line
  sym : (path target time : List ℕ) → Line
  dir : (path : List ℕ) → Line

-- how a line is written
abbrev pub line_text : Line → List ℕ
line_text (obj path digest time) =
    codes "obj /" ++ (path ++ (32 ∷ (encode_lower digest ++ (32 ∷ time))))
line_text (sym path target time) =
    codes "sym /" ++ (path ++ (codes " -> " ++ (target ++ (32 ∷ time))))
line_text (dir path) = codes "dir /" ++ path

-- some digits
abbrev pub is_time : List ℕ → Bool
is_time time = nat_lt 0 (length time) && list_all is_digit time

abbrev pub IsLine : Line → Type 0
IsLine (obj path digest time) = IsPathText path × (IsDigest digest × (is_time time ≡ true))
IsLine (sym path target time) =
    IsPathText path × ((is_target target ≡ true) × (is_time time ≡ true))
IsLine (dir path) = IsPathText path

abbrev pub path_of : Owned → List ℕ
path_of o = o.path

-- one path is the other, or above or below it
abbrev pub meets : List ℕ → List ℕ → Bool
meets top path = bytes_eq path top || (is_below top path || is_below path top)

-- a path that no package owns: in the database, in the journal, or above one of them
abbrev pub is_dropped : List ℕ → Bool
is_dropped path = meets database_path path || meets jobs path

abbrev pub unless_dropped : Owned → List Owned
unless_dropped o = if is_dropped o.path then [] else o ∷ []

-- what a line gives to the package
abbrev pub owned_by : Line → List Owned
owned_by (obj path digest time) = unless_dropped (record { path = path; content = File digest })
owned_by (sym path target time) = unless_dropped (record { path = path; content = Link target })
owned_by (dir path) = []

-- a byte in front of a text that is parted into lines
abbrev pub before_lines : ℕ → List (List ℕ) → List (List ℕ)
before_lines b [] = (b ∷ []) ∷ []
before_lines b (l ∷ ls) = (b ∷ l) ∷ ls

-- the lines of a text, each without the newline that ends it; what stands behind the last newline
-- is a line if it has bytes
abbrev pub lines : List ℕ → List (List ℕ)
lines [] = []
lines (b ∷ bs) = if b == 10 then [] ∷ lines bs else before_lines b (lines bs)

abbrev pub owned_in : List Line → List Owned
owned_in ls = flat_map owned_by ls

-- the lines are these, and no path is owned by two of them
pub record AreLines (texts : List (List ℕ)) (ls : List Line) : Type 0 where
  pub spelled : texts ≡ map line_text ls
  pub form : AllByRecursion IsLine ls
  pub once : AreDistinct (map path_of (owned_in ls))

-- the text says that the package owns just these, in this order
pub record TellsOwned (text : List ℕ) (owned : List Owned) : Type 0 where
  pub ls : List Line
  pub are : AreLines (lines text) ls
  pub means : owned ≡ owned_in ls

-- a line gives what has a path of the earlier ones
abbrev pub Repeats : List Line → Line → Type 0
Repeats before l = (o : Owned) × Has (owned_by l) o × Has (map path_of (owned_in before)) o.path

-- the first faulty line has this index: each line that it may be repeats a path of those before
-- it, which are good
pub record IsFaultyLine (texts : List (List ℕ)) (at : ℕ) : Type 0 where
  pub before : List Line
  pub good : AreLines (take at texts) before
  pub here : List ℕ
  pub there : slice_get texts at ≡ Some here
  pub bad : (l : Line) → IsLine l → here ≡ line_text l → Repeats before l

-- the fault is the first faulty line, counted from 1; memory may run out on any text
abbrev pub FirstFault : List ℕ → ContentsFault → Type 0
FirstFault text (faults.Line number) = (at : ℕ) × (number ≡ suc at) × IsFaultyLine (lines text) at
FirstFault text faults.Memory = ⊤

-- how an owned path is written
abbrev pub line_of : List ℕ → Content → Line
line_of path (File digest) = obj path digest (codes "0")
line_of path (Link target) = sym path target (codes "0")

abbrev pub written_line : Owned → Line
written_line o = line_of o.path o.content

abbrev pub ended : List ℕ → List ℕ
ended line = line ++ (10 ∷ [])

-- the text of CONTENTS
abbrev pub contents_text : List Owned → List ℕ
contents_text owned = flat_map (λ o. ended (line_text (written_line o))) owned

-- what can be read back
abbrev pub IsContent : Content → Type 0
IsContent (File digest) = IsDigest digest
IsContent (Link target) = is_target target ≡ true

pub record IsOwnable (o : Owned) : Type 0 where
  pub path : IsPathText o.path
  pub content : IsContent o.content
  pub free : is_dropped o.path ≡ false

-- what is written is read back, where the paths are ownable and none stands twice
abbrev pub ContentsAreReadBack : Type 0
ContentsAreReadBack =
    (owned : List Owned) → AllByRecursion IsOwnable owned → AreDistinct (map path_of owned) →
    TellsOwned (contents_text owned) owned

-- a text says one list of paths
abbrev pub OneContents : Type 0
OneContents = (text : List ℕ) (a b : List Owned) → TellsOwned text a → TellsOwned text b → a ≡ b

-- a text that says a list has no faulty line
abbrev pub GoodHasNoFault : Type 0
GoodHasNoFault =
    (text : List ℕ) (owned : List Owned) (at : ℕ) → TellsOwned text owned →
    ¬ IsFaultyLine (lines text) at

-- the first faulty line is one
abbrev pub OneFault : Type 0
OneFault = (texts : List (List ℕ)) (i j : ℕ) → IsFaultyLine texts i → IsFaultyLine texts j → i ≡ j
