-- How atoms are written (PMS 8.3), and which atoms some text writes.
use Rattle.std.specs.Prelude.{◌≡◌, ℕ, Bool, true, false, List, [], ◌∷◌, ◌++◌, Option, Some, None}
use Rattle.std.specs.List.{flat_map}
use Rattle.pms_grammar.specs.Grammar.{VersionValue, spelling}
use Rattle.pms_names.specs.declared.name.Name.{Name}
use Rattle.dep_atom.specs.declared.atom.Block.{Block}
use Rattle.dep_atom.specs.declared.atom.Block.TheVariants.{No, Weak, Strong}
use Rattle.dep_atom.specs.declared.atom.Op.{Op}
use Rattle.dep_atom.specs.declared.atom.Op.TheVariants.{Any, Less, LessEqual, Equal, Similar, GreaterEqual, Greater}
use Rattle.dep_atom.specs.declared.slot.SlotPart.{SlotPart}
use Rattle.dep_atom.specs.declared.slot.SlotPart.TheVariants.{Free, Star, Equals, Given}
use Rattle.dep_atom.specs.declared.uses.UseKind.{UseKind}
use Rattle.dep_atom.specs.declared.uses.UseKind.TheVariants.{On, Off, Same, Opposite, OnIfOn, OffIfOff}
use Rattle.dep_atom.specs.declared.uses.UseDep.{UseDep}
use Rattle.dep_atom.specs.declared.atom.Atom.{Atom}
use Rattle.dep_atom.specs.Values.{AtomValue, atom_value}

-- nothing, `!` or `!!`
abbrev pub block_text : Block → List ℕ
block_text No = []
block_text Weak = 33 ∷ []
block_text Strong = 33 ∷ 33 ∷ []

-- nothing, `<`, `<=`, `=`, `~`, `>=` or `>`
abbrev pub op_text : Op → List ℕ
op_text Any = []
op_text Less = 60 ∷ []
op_text LessEqual = 60 ∷ 61 ∷ []
op_text Equal = 61 ∷ []
op_text Similar = 126 ∷ []
op_text GreaterEqual = 62 ∷ 61 ∷ []
op_text Greater = 62 ∷ []

-- the category, a slash and the package
abbrev pub name_text : Name → List ℕ
name_text name = name.category ++ (47 ∷ name.«package»)

-- nothing, or a hyphen and the version
abbrev pub version_part : Option VersionValue → List ℕ
version_part None = []
version_part (Some version) = 45 ∷ spelling version

-- `*` or nothing
abbrev pub star_text : Bool → List ℕ
star_text true = 42 ∷ []
star_text false = []

-- nothing, or a slash and the subslot
abbrev pub subslot_text : Option (List ℕ) → List ℕ
subslot_text None = []
subslot_text (Some subslot) = 47 ∷ subslot

-- `=` or nothing
abbrev pub equals_text : Bool → List ℕ
equals_text true = 61 ∷ []
equals_text false = []

-- nothing, `:*`, `:=`, or a colon with the slot, its subslot and an equals sign
abbrev pub slot_text : SlotPart → List ℕ
slot_text Free = []
slot_text Star = 58 ∷ 42 ∷ []
slot_text Equals = 58 ∷ 61 ∷ []
slot_text (Given slot subslot equals) = 58 ∷ (slot ++ (subslot_text subslot ++ equals_text equals))

-- what stands before the flag: `-`, `!` or nothing
abbrev pub before_flag : UseKind → List ℕ
before_flag On = []
before_flag Off = 45 ∷ []
before_flag Same = []
before_flag Opposite = 33 ∷ []
before_flag OnIfOn = []
before_flag OffIfOff = 33 ∷ []

-- what ends the item: `=`, `?` or nothing
abbrev pub after_flag : UseKind → List ℕ
after_flag On = []
after_flag Off = []
after_flag Same = 61 ∷ []
after_flag Opposite = 61 ∷ []
after_flag OnIfOn = 63 ∷ []
after_flag OffIfOff = 63 ∷ []

-- `(+)`, `(-)` or nothing
abbrev pub otherwise_text : Option Bool → List ℕ
otherwise_text None = []
otherwise_text (Some true) = 40 ∷ 43 ∷ 41 ∷ []
otherwise_text (Some false) = 40 ∷ 45 ∷ 41 ∷ []

abbrev pub use_text : UseDep → List ℕ
use_text item =
    before_flag item.kind ++ (item.flag ++ (otherwise_text item.otherwise ++ after_flag item.kind))

-- a comma and the item
abbrev pub further_use_text : UseDep → List ℕ
further_use_text item = 44 ∷ use_text item

-- the items with commas between them, in brackets; nothing where there are none
abbrev pub uses_text : List UseDep → List ℕ
uses_text [] = []
uses_text (first ∷ others) =
    91 ∷ (use_text first ++ (flat_map further_use_text others ++ (93 ∷ [])))

-- the same without the closing bracket, as far as the items go
abbrev pub opened_text : List UseDep → List ℕ
opened_text [] = []
opened_text (first ∷ others) = 91 ∷ (use_text first ++ flat_map further_use_text others)

-- the one spelling of an atom that says this
abbrev pub value_text : AtomValue → List ℕ
value_text a =
    block_text a.block ++ (op_text a.op ++ (name_text a.name ++ (version_part a.version
    ++ (star_text a.star ++ (slot_text a.slot ++ uses_text a.uses)))))

-- the one spelling of the atom
abbrev pub atom_text : Atom → List ℕ
atom_text atom = value_text (atom_value atom)

-- the equals sign of the slot part
abbrev pub keeps_equals : SlotPart → Bool
keeps_equals Free = false
keeps_equals Star = false
keeps_equals Equals = true
keeps_equals (Given slot subslot equals) = equals
