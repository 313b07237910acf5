use Rattle.vdb_files.proofs.Again.{said_recordable}
use Rattle.vdb_files.proofs.laws.said_packages_are_recordable.Goals as goal

pub returns : goal.returns
returns c = said_recordable c.trees_in_form_are_atoms_in_groups.ensures
