-- A set of flags, as the list of their texts in byte order.
use Rattle.std.specs.Prelude.{ℕ, Bool, List, bytes_eq}
use Rattle.std.specs.List.{list_any}
use Rattle.std.specs.List.Sorted.{IsStrictlySortedBy}
use Rattle.std.specs.Cmp.Lexicographic.{slice_cmp}
use Rattle.std.specs.Ordering.{nat_cmp}
use Rattle.std.specs.declared.cmp.Ordering.{Ordering}

-- the flag is one of the list
abbrev pub has : List (List ℕ) → List ℕ → Bool
has flags flag = list_any (bytes_eq flag) flags

-- texts by their first different byte; where there is none, the longer is greater
abbrev pub byte_order : List ℕ → List ℕ → Ordering
byte_order = slice_cmp nat_cmp

-- each text stands before all later ones in byte order, so none stands twice
abbrev pub IsRising : List (List ℕ) → Type 0
IsRising flags = IsStrictlySortedBy byte_order flags
