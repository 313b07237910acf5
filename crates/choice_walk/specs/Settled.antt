-- Lines of whose package nothing is open, from choice to choice.
use Rattle.std.specs.Prelude.{◌≡◌, ◌<◌, ◌++◌, ℕ, false, true, List, [], None, length}
use Rattle.std.specs.BTreeSet.{BTreeSet, contains}
use Rattle.std.specs.List.{find}
use Rattle.std.specs.Option.{option_map_or}
use Rattle.std.specs.Ordering.{nat_cmp}
use Rattle.basics.specs.Members.{Has}
use Rattle.dep_atom.specs.Ids.{id_text}
use Rattle.pkg_state.specs.Package.{Package}
use Rattle.choice_tree.specs.Keys.{Lists, lines_at}
use Rattle.choice_tree.specs.Open.{is_open_of, obligations_of}
use Rattle.choice_tree.specs.Places.{Place, package_in}
use Rattle.choice_tree.specs.Seen.{places_of}
use Rattle.choice_tree.specs.declared.place.Place.{Place as ThePlace}

-- nothing is open of the package on this one of so many lines
abbrev pub IsSettled : ℕ → List Place → ℕ → Type 0
IsSettled n ss l = find (is_open_of ss) (obligations_of n l) ≡ None

-- the line isn't among these
abbrev pub IsOut : BTreeSet ℕ → ℕ → Type 0
IsOut lines l = contains nat_cmp lines l ≡ false

-- nothing is open of the packages on the lines that aren't among these
pub record AreSettled (ps : List ThePlace) (lines : BTreeSet ℕ) : Type 0 where
  pub each : (l : ℕ) → l < length ps → IsOut lines l → IsSettled (length ps) (places_of ps) l

-- the lines in the first set are in the second one
abbrev pub AreKept : BTreeSet ℕ → BTreeSet ℕ → Type 0
AreKept old new = (l : ℕ) → IsOut new l → IsOut old l

-- .. and so are those in the list
abbrev pub AreIn : List ℕ → BTreeSet ℕ → Type 0
AreIn ls lines = (l : ℕ) → Has ls l → contains nat_cmp lines l ≡ true

-- the lines with a leaf of the package's name, and those that may have its text
abbrev pub lines_about : Lists → Lists → Package → List ℕ
lines_about leaves texts p =
    lines_at leaves p.facts.id.name.«package» ++ lines_at texts (id_text p.facts.id)

-- the same for what stands there
abbrev pub lines_around : Lists → Lists → Place → List ℕ
lines_around leaves texts s = option_map_or (lines_about leaves texts) (package_in s) []
