-- The fields of an entry, and which values they may have (PMS 14.3, 7.2, 7.3).
use Rattle.std.specs.Prelude.{◌≡◌, ◌&&◌, ◌||◌, ℕ, Bool, List, [], ◌∷◌, Option, None, Some, IsSome, bytes_eq, codes, if◌then◌else◌, is_some, ⊤}
use Rattle.std.specs.List.{AllByRecursion}
use Rattle.dep_tree.specs.Texts.{AreDependencies}
use Rattle.file_digest.specs.Digests.{WritesDigest}
use Rattle.required_use.specs.Texts.{IsExpression}
use Rattle.pms_slot.specs.Slots.{IsSlotValue}
use Rattle.use_flags.specs.Items.{IsItem}
use Rattle.use_flags.specs.Words.{EachWord}
use Rattle.pkg_state.specs.Eapis.{eapi_text, has_class}
use Rattle.pkg_state.specs.Package.{class_word}
use Rattle.pkg_state.specs.declared.class.Class.{Class}
use Rattle.pkg_state.specs.declared.class.Class.TheVariants.{Rdepend, Pdepend, Depend, Bdepend, Idepend}
use Rattle.pkg_state.specs.declared.eapi.Eapi.{Eapi}
use Rattle.md5_cache.specs.declared.field.Field.{Field}
use Rattle.md5_cache.specs.declared.field.Field.TheVariants.{Digest, Iuse, Needs, Other, Required, Slot}
use Rattle.md5_cache.specs.declared.pair.Pair.{Pair}

-- the value of the first pair with the key
abbrev pub value_under : List Pair → List ℕ → Option (List ℕ)
value_under [] key = None
value_under (p ∷ pairs) key =
    if bytes_eq p.key key then Some p.value else value_under pairs key

-- the pairs are said to be of this edition
abbrev pub IsOfEdition : List Pair → Eapi → Type 0
IsOfEdition pairs e = value_under pairs (codes "EAPI") ≡ Some (eapi_text e)

-- the key is that of this class of dependencies, which the edition has
abbrev pub names_class : Eapi → List ℕ → Class → Bool
names_class e key class = has_class e class && bytes_eq key (class_word class)

-- the key is that of a class of dependencies of the edition
abbrev pub is_class : Eapi → List ℕ → Bool
is_class e key =
    names_class e key Rdepend || (names_class e key Pdepend || (names_class e key Depend ||
    (names_class e key Bdepend || names_class e key Idepend)))

-- which field the key names in an entry of the edition
abbrev pub field_of : Eapi → List ℕ → Field
field_of e key =
    if bytes_eq key (codes "SLOT") then Slot
    else if bytes_eq key (codes "_md5_") then Digest
    else if bytes_eq key (codes "IUSE") then Iuse
    else if bytes_eq key (codes "REQUIRED_USE") then Required
    else if is_class e key then Needs
    else Other

-- the field may have the value
abbrev pub IsFieldInForm : Field → List ℕ → Type 0
IsFieldInForm Slot value = (slot : List ℕ) × (subslot : List ℕ) × IsSlotValue value slot subslot
IsFieldInForm Digest value = (digest : List ℕ) × WritesDigest value digest
IsFieldInForm Iuse value = EachWord IsItem value
IsFieldInForm Required value = IsExpression value
IsFieldInForm Needs value = AreDependencies value
IsFieldInForm Other value = ⊤

-- in an entry of the edition the key of the pair may have its value
abbrev pub IsGood : Eapi → Pair → Type 0
IsGood e p = IsFieldInForm (field_of e p.key) p.value

-- the first of the keys that must be there and isn't
abbrev pub first_absent : List Pair → Option (List ℕ)
first_absent pairs =
    if is_some (value_under pairs (codes "EAPI")) then
    if is_some (value_under pairs (codes "SLOT")) then
    if is_some (value_under pairs (codes "_md5_")) then None
    else Some (codes "_md5_")
    else Some (codes "SLOT")
    else Some (codes "EAPI")

-- the pairs are those of an entry of this edition
pub record AreFieldsOf (e : Eapi) (pairs : List Pair) : Type 0 where
  pub edition : IsOfEdition pairs e
  pub slot : IsSome (value_under pairs (codes "SLOT"))
  pub digest : IsSome (value_under pairs (codes "_md5_"))
  pub each : AllByRecursion (IsGood e) pairs

-- the pairs are those of an entry of an edition that is read
abbrev pub AreFields : List Pair → Type 0
AreFields pairs = (e : Eapi) × AreFieldsOf e pairs
