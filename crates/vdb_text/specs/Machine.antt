-- The faults of a database that tell nothing of the tree.
use Rattle.file_tree.specs.Faults as carried
use Rattle.vdb_text.specs.declared.fault.DatabaseFault.{DatabaseFault}
use Rattle.vdb_text.specs.declared.fault.DatabaseFault.TheVariants.{Tree}

-- the machine failed, whatever the tree holds
abbrev pub IsOfMachine : DatabaseFault → Type 0
IsOfMachine fault = carried.IsOfMachine Tree fault
