use Rattle.std.proofs.Common.{refl}
use Rattle.dep_atom.specs.Ids.{name_and_version}
use Rattle.dep_atom.specs.Text.{value_text}
use Rattle.dep_atom.proofs.OneFault.{no_atom_fault, one_atom_fault}
use Rattle.dep_atom.proofs.OneId.{no_id_fault, one_id_fault}
use Rattle.dep_atom.proofs.laws.one_fault.Goals as goal

pub returns : goal.returns
returns c =
    record {
      packages = one_id_fault;
      no_package = λ id is a f. no_id_fault id.name.category (name_and_version id) a id is refl refl f;
      atoms = one_atom_fault;
      no_atom = λ atom is a f. no_atom_fault (value_text atom) a atom is refl f;
    }
