-- The images of packages, of which a builder has all entries in one list.
use Rattle.std.specs.Prelude.{ℕ, Bool, List, bytes_eq, filter, map, string_bytes}
use Rattle.file_tree.specs.declared.objects.Entry.{Entry}
use Rattle.in_memory.specs.declared.packed.Packed.{Packed}

-- the entry is one of the package of this name
abbrev pub is_of : List ℕ → Packed → Bool
is_of name one = bytes_eq (string_bytes one.of) name

abbrev pub entry_of : Packed → Entry
entry_of one = one.entry

-- the entries of that package, in their order
abbrev pub image_of : List Packed → List ℕ → List Entry
image_of all name = map entry_of (filter (is_of name) all)
