-- When an atom matches a package (PMS 8.3): four tests, each of which passes.
use Rattle.std.specs.Prelude.{ℕ, Bool, true, false, not, ◌&&◌, ◌||◌, List, Option, Some, None, bytes_eq, if◌then◌else◌}
use Rattle.std.specs.List.{list_all}
use Rattle.std.specs.Ordering.{is_lt, is_le, is_eq, is_ge, is_gt}
use Rattle.pms_grammar.specs.Grammar.{VersionValue}
use Rattle.pms_version.specs.Order.{version_cmp, without_revision}
use Rattle.pms_version.specs.Begins.{version_begins}
use Rattle.pms_names.specs.Flags.{has}
use Rattle.pms_names.specs.declared.name.Name.{Name}
use Rattle.dep_atom.specs.declared.package.Facts.{Facts}
use Rattle.dep_atom.specs.declared.atom.Op.{Op}
use Rattle.dep_atom.specs.declared.atom.Op.TheVariants.{Any, Less, LessEqual, Equal, Similar, GreaterEqual, Greater}
use Rattle.dep_atom.specs.declared.slot.SlotPart.{SlotPart}
use Rattle.dep_atom.specs.declared.slot.SlotPart.TheVariants.{Free, Star, Equals, Given}
use Rattle.dep_atom.specs.declared.uses.UseKind.{UseKind}
use Rattle.dep_atom.specs.declared.uses.UseKind.TheVariants.{On, Off, Same, Opposite, OnIfOn, OffIfOff}
use Rattle.dep_atom.specs.declared.uses.UseDep.{UseDep}
use Rattle.dep_atom.specs.declared.atom.Atom.{Atom}
use Rattle.dep_atom.specs.Values.{AtomValue, atom_value}

abbrev pub same_name : Name → Name → Bool
same_name a b = bytes_eq a.category b.category && bytes_eq a.«package» b.«package»

-- the operator and its version accept the candidate; a star turns `=` into a test of the beginning
abbrev pub version_fits : Op → Bool → VersionValue → VersionValue → Bool
version_fits Any star version candidate = true
version_fits Less star version candidate = is_lt (version_cmp candidate version)
version_fits LessEqual star version candidate = is_le (version_cmp candidate version)
version_fits Equal star version candidate =
    if star then version_begins version candidate else is_eq (version_cmp candidate version)
version_fits Similar star version candidate =
    is_eq (version_cmp (without_revision candidate) (without_revision version))
version_fits GreaterEqual star version candidate = is_ge (version_cmp candidate version)
version_fits Greater star version candidate = is_gt (version_cmp candidate version)

-- the same for an atom that may have no version, which then accepts every one
abbrev pub accepts_version : Op → Bool → Option VersionValue → VersionValue → Bool
accepts_version op star None candidate = true
accepts_version op star (Some version) candidate = version_fits op star version candidate

-- a subslot that isn't written accepts every one
abbrev pub accepts_subslot : Option (List ℕ) → List ℕ → Bool
accepts_subslot None subslot = true
accepts_subslot (Some written) subslot = bytes_eq written subslot

-- the slot part accepts the slot and the subslot
abbrev pub accepts_slot : SlotPart → List ℕ → List ℕ → Bool
accepts_slot Free slot subslot = true
accepts_slot Star slot subslot = true
accepts_slot Equals slot subslot = true
accepts_slot (Given written sub equals) slot subslot =
    bytes_eq written slot && accepts_subslot sub subslot

-- what a package's flag is worth: an unknown one, what the atom says of such, if anything
abbrev pub value_of : List (List ℕ) → List (List ℕ) → List ℕ → Option Bool → Option Bool
value_of iuse enabled flag otherwise =
    if has iuse flag || has enabled flag then Some (has enabled flag) else otherwise

-- the value is one that the kind of item asks for, of an asker that has the flag or hasn't
abbrev pub agrees : UseKind → Bool → Bool → Bool
agrees On asker value = value
agrees Off asker value = not value
agrees Same asker value = if asker then value else not value
agrees Opposite asker value = if asker then not value else value
agrees OnIfOn asker value = not asker || value
agrees OffIfOff asker value = asker || not value

-- the same for a flag that may have no value, with which no item agrees
abbrev pub agrees_with : UseKind → Bool → Option Bool → Bool
agrees_with kind asker None = false
agrees_with kind asker (Some value) = agrees kind asker value

abbrev pub accepts_use : List (List ℕ) → List (List ℕ) → List (List ℕ) → UseDep → Bool
accepts_use iuse enabled asker item =
    agrees_with item.kind (has asker item.flag) (value_of iuse enabled item.flag item.otherwise)

-- the name, the version, the slot and each USE item of an atom that says this accept the package,
-- for an asker with these flags
abbrev pub value_matches : AtomValue → Facts → List (List ℕ) → Bool
value_matches a target asker =
    same_name a.name target.id.name
    && (accepts_version a.op a.star a.version target.id.version
    && (accepts_slot a.slot target.slot target.subslot
    && list_all (accepts_use target.iuse target.enabled asker) a.uses))

-- the same of an atom
abbrev pub matches : Atom → Facts → List (List ℕ) → Bool
matches atom target asker = value_matches (atom_value atom) target asker
