-- How the masks and the lines of keywords that may mean a package are found by its name.
use denote.Ref.{Bor}
use Rattle.std.specs.Prelude.{◌≡◌, ◌++◌, ℕ, Bool, false, List, [], ◌∷◌, Vec, bytes_eq, filter, if◌then◌else◌, map}
use Rattle.std.specs.Global.{Global}
use Rattle.std.specs.BTreeMap.{BTreeMap}
use Rattle.std.specs.Option.{option_map_or}
use Rattle.dep_atom.specs.declared.atom.Atom.{Atom}
use Rattle.pkg_state.specs.Index.{listed}
use Rattle.profile_lines.specs.declared.item.Item.{Item}
use Rattle.visible_rules.specs.declared.line.KeywordLine.{KeywordLine}

-- the atom is one of packages of this name
abbrev pub is_of : List ℕ → Atom → Bool
is_of name atom = bytes_eq name atom.name.«package»

-- the item has such an atom
abbrev pub is_item_of : List ℕ → Item → Bool
is_item_of name item = option_map_or (is_of name) item.atom false

-- the line has such an atom
abbrev pub is_line_of : List ℕ → KeywordLine → Bool
is_line_of name line = is_of name line.atom

-- under each name stand those of the list that are of it, in their order
abbrev pub AreUnder : {X : Type 0} → (List ℕ → X → Bool) → List X →
    BTreeMap (Bor (List ℕ)) (Vec (Bor X) Global) → Type 0
AreUnder is_named xs lists =
    (name : List ℕ) → map (λ x. x.now) (listed lists name) ≡ filter (is_named name) xs

-- the list with one more item of it, if it is of this name
abbrev pub with_item : List ℕ → List Item → Item → List Item
with_item name items item = if is_item_of name item then items ++ item ∷ [] else items
