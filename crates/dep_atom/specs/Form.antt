-- Which atoms some text writes.
use Rattle.std.specs.Prelude.{◌≡◌, ℕ, Bool, false, List, Option, Some, None, ⊤}
use Rattle.pms_grammar.specs.Grammar.{VersionValue}
use Rattle.pms_version.specs.Limits.{IsReadable}
use Rattle.pms_names.specs.Names.{IsName}
use Rattle.pms_names.specs.declared.kind.Kind.TheVariants as kinds
use Rattle.pms_names.specs.declared.name.Name.{Name}
use Rattle.dep_atom.specs.declared.atom.Op.{Op}
use Rattle.dep_atom.specs.declared.atom.Op.TheVariants.{Any, Equal}
use Rattle.dep_atom.specs.declared.slot.SlotPart.{SlotPart}
use Rattle.dep_atom.specs.declared.slot.SlotPart.TheVariants.{Free, Star, Equals, Given}
use Rattle.dep_atom.specs.declared.uses.UseDep.{UseDep}

pub record IsNameForm (name : Name) : Type 0 where
  pub category : IsName kinds.Category name.category
  pub «package» : IsName kinds.Package name.«package»

abbrev pub IsSubslotForm : Option (List ℕ) → Type 0
IsSubslotForm None = ⊤
IsSubslotForm (Some subslot) = IsName kinds.Slot subslot

abbrev pub IsSlotForm : SlotPart → Type 0
IsSlotForm Free = ⊤
IsSlotForm Star = ⊤
IsSlotForm Equals = ⊤
IsSlotForm (Given slot subslot equals) = IsName kinds.Slot slot × IsSubslotForm subslot

abbrev pub IsUseForm : UseDep → Type 0
IsUseForm item = IsName kinds.Flag item.flag

-- a version stands exactly behind an operator, and an asterisk behind that of `=` alone
abbrev pub IsVersionForm : Op → Option VersionValue → Bool → Type 0
IsVersionForm Any None star = star ≡ false
IsVersionForm Any (Some version) star = ⊥
IsVersionForm Equal None star = ⊥
IsVersionForm Equal (Some version) star = IsReadable version
IsVersionForm op None star = ⊥
IsVersionForm op (Some version) star = IsReadable version × (star ≡ false)

pub record IsPackageForm (op : Op) (name : Name) (version : Option VersionValue)
    (star : Bool) : Type 0 where
  pub named : IsNameForm name
  pub versioned : IsVersionForm op version star

abbrev pub IsReadableOption : Option VersionValue → Type 0
IsReadableOption None = ⊥
IsReadableOption (Some version) = IsReadable version

-- a name and a version, with an asterisk only where it may stand
pub record IsVersionedForm (may_star : Bool) (name : Name) (version : Option VersionValue)
    (star : Bool) : Type 0 where
  pub named : IsNameForm name
  pub readable : IsReadableOption version
  pub starred : may_star ≡ false → star ≡ false
