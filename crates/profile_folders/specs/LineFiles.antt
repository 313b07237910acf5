-- The lines of a line file, which may be a folder of files (PMS 5.2.4 to 5.2.11).
use Rattle.std.specs.Prelude.{◌≡◌, ◌↔◌, ◌⊎◌, ◌+◌, ◌==◌, ◌&&◌, ℕ, Bool, true, false, not, List, [], ◌∷◌, ◌++◌, None, Some, IsSome, drop, length, map}
use Rattle.std.specs.Cmp.Lexicographic.{slice_cmp}
use Rattle.std.specs.List.{AllByRecursion, flat_map, list_any}
use Rattle.std.specs.List.Sorted.{IsStrictlySortedBy}
use Rattle.std.specs.Ordering.{nat_cmp}
use Rattle.std.specs.Str.{IsUtf8}
use Rattle.basics.specs.Members.{Has}
use Rattle.config_text.specs.Faults.{NotUtf8At}
use Rattle.config_text.specs.Lines.{lines}
use Rattle.config_text.specs.declared.line.Line.{Line}
use Rattle.file_tree.specs.Disk.{Map}
use Rattle.file_tree.specs.Paths.{is_below}
use Rattle.file_tree.specs.ObjectValue.{ObjectValue}
use Rattle.profile_folders.specs.Places.{is_slash}
use Rattle.profile_folders.specs.Texts.{text_of}
use Rattle.profile_folders.specs.declared.fault.ProfileFault.{ProfileFault}
use Rattle.profile_folders.specs.declared.fault.ProfileFault.TheVariants.{Text}
use Rattle.profile_folders.specs.declared.line_file.FileLine.{FileLine}

-- the name begins with a full stop
abbrev pub is_hidden : List ℕ → Bool
is_hidden [] = false
is_hidden (b ∷ bytes) = b == 46

-- the name of a file that counts in a folder: one part, and not hidden
abbrev pub is_shown : List ℕ → Bool
is_shown name = not (is_hidden name) && not (list_any is_slash name)

-- the path is that of a file directly in the folder whose name counts
abbrev pub is_file_in : List ℕ → List ℕ → Bool
is_file_in folder path = is_below folder path && is_shown (drop (length folder + 1) path)

-- the files of the folder that count, in byte order
pub record AreFilesIn (m : Map) (folder : List ℕ) (files : List (List ℕ)) : Type 0 where
  pub rising : IsStrictlySortedBy (slice_cmp nat_cmp) files
  pub members : (q : List ℕ) → Has files q ↔ (IsSome (m q) × (is_file_in folder q ≡ true))

-- the files whose lines count at the path: an object there goes before a folder
abbrev pub AreFiles : Map → List ℕ → List (List ℕ) → Type 0
AreFiles m path files =
    ((x : ObjectValue) × (m path ≡ Some x) × (files ≡ path ∷ []))
    ⊎ ((m path ≡ None) × AreFilesIn m path files)

-- a line, and the file in which it stands
abbrev pub file_line : List ℕ → Line → FileLine
file_line file line = record { file = file; number = line.number; text = line.text }

-- the lines of a file that count
abbrev pub lines_of : Map → List ℕ → List FileLine
lines_of m file = map (file_line file) (lines (text_of (m file)))

-- the file has a text
abbrev pub HasText : Map → List ℕ → Type 0
HasText m file = IsUtf8 (text_of (m file))

-- a byte of the file isn't UTF-8, and this tells the first
abbrev pub HasBadByte : Map → List ℕ → ProfileFault → Type 0
HasBadByte m file (Text path line) = (path ≡ file) × NotUtf8At (text_of (m file)) line
HasBadByte m file _ = ⊥

-- the lines that count at the path, file by file
pub record AreLines (m : Map) (path : List ℕ) (these : List FileLine) : Type 0 where
  pub files : List (List ℕ)
  pub are : AreFiles m path files
  pub texts : AllByRecursion (HasText m) files
  pub all : these ≡ flat_map (lines_of m) files

-- the first file at the path that has no text has this fault
pub record IsLinesFault (m : Map) (path : List ℕ) (fault : ProfileFault) : Type 0 where
  pub front : List (List ℕ)
  pub bad : List ℕ
  pub rest : List (List ℕ)
  pub are : AreFiles m path (front ++ (bad ∷ rest))
  pub texts : AllByRecursion (HasText m) front
  pub has : HasBadByte m bad fault
