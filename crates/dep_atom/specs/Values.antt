-- Atoms as plain data: what an atom says, without the room of its list of items.
use Rattle.std.specs.Prelude.{Bool, List, Option}
use Rattle.pms_grammar.specs.Grammar.{VersionValue}
use Rattle.pms_names.specs.declared.name.Name.{Name}
use Rattle.dep_atom.specs.declared.atom.Block.{Block}
use Rattle.dep_atom.specs.declared.atom.Op.{Op}
use Rattle.dep_atom.specs.declared.slot.SlotPart.{SlotPart}
use Rattle.dep_atom.specs.declared.uses.UseDep.{UseDep}
use Rattle.dep_atom.specs.declared.atom.Atom.{Atom}

pub record AtomValue : Type 0 where
  pub block : Block
  pub op : Op
  pub name : Name
  pub version : Option VersionValue
  pub star : Bool
  pub slot : SlotPart
  pub uses : List UseDep

abbrev pub atom_value : Atom → AtomValue
atom_value a =
    record {
      block = a.block;
      op = a.op;
      name = a.name;
      version = a.version;
      star = a.star;
      slot = a.slot;
      uses = a.uses.items;
    }

-- the atom with this slot part
abbrev pub with_slot : SlotPart → AtomValue → AtomValue
with_slot slot a = record a { slot = slot }
