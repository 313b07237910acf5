-- Which groups a crash image of the disk has open.
use Rattle.std.specs.Prelude.{◌==◌, ◌<◌, ◌&&◌, ◌++◌, ◌^◌, ℕ, zero, suc, Bool, false, List, [], ◌∷◌, Option, Some, None, bytes_eq, ⊤, if◌then◌else◌}
use Rattle.basics.specs.Members.{Has}
use Rattle.file_tree.specs.Disk.{Map}
use Rattle.file_tree.specs.ObjectValue.{ObjectValue}
use Rattle.merge_journal.specs.Names.{gate_path}
use Rattle.merge_record.specs.Spelling.{byte_of}

-- a plain file of just the byte 1
abbrev pub is_open : Option ObjectValue → Bool
is_open None = false
is_open (Some o) = (byte_of o.kind == 0) && bytes_eq o.bytes (1 ∷ [])

-- each is below all that stand behind it
abbrev pub IsRising : List ℕ → Type 0
IsRising [] = ⊤
IsRising (g ∷ gs) = ((h : ℕ) → Has gs h → g < h) × IsRising gs

-- the open groups with a number below n, rising
unfoldable pub open_below : Map → ℕ → List ℕ
open_below c zero = []
open_below c (suc n) = open_below c n ++ (if is_open (c (gate_path n)) then n ∷ [] else [])

-- the open groups, rising
unfoldable pub open_groups : Map → List ℕ
open_groups c = open_below c (2 ^ 32)
