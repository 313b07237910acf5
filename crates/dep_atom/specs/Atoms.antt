-- Which atoms some text writes.
use Rattle.std.specs.List.{AllByRecursion}
use Rattle.dep_atom.specs.declared.atom.Atom.{Atom}
use Rattle.dep_atom.specs.Form.{IsPackageForm, IsSlotForm, IsUseForm}
use Rattle.dep_atom.specs.Values.{AtomValue, atom_value}

-- names are names, a version stands exactly behind an operator, and an asterisk behind that of `=`
-- alone
pub record IsAtomValue (a : AtomValue) : Type 0 where
  pub package_form : IsPackageForm a.op a.name a.version a.star
  pub slot_form : IsSlotForm a.slot
  pub use_forms : AllByRecursion IsUseForm a.uses

-- the same of an atom
abbrev pub IsAtom : Atom → Type 0
IsAtom atom = IsAtomValue (atom_value atom)
