-- The faults of a profile that tell nothing of the tree.
use Rattle.file_tree.specs.Faults as carried
use Rattle.profile_folders.specs.declared.fault.ProfileFault.{ProfileFault}
use Rattle.profile_folders.specs.declared.fault.ProfileFault.TheVariants.{Tree}

-- the machine failed, whatever the tree holds
abbrev pub IsOfMachine : ProfileFault → Type 0
IsOfMachine fault = carried.IsOfMachine Tree fault
