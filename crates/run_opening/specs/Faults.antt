-- What a tree is refused for, where a run would begin with it.
use Rattle.std.specs.Prelude.{◌≡◌, ℕ, List, Some, Vec, ⊤}
use Rattle.std.specs.Global.{Global}
use Rattle.file_tree.specs.Disk.{Map}
use Rattle.file_tree.specs.Faults as carried
use Rattle.file_tree.specs.declared.fault.TreeFault.{TreeFault}
use Rattle.file_tree.specs.declared.fault.TreeFault.TheVariants as trees
use Rattle.file_tree.specs.declared.limits.Quantity.{Quantity}
use Rattle.pkg_state.specs.Fault.{Fault, told}
use Rattle.pkg_state.specs.declared.broken.Broken.{Broken}
use Rattle.pkg_state.specs.declared.broken.Broken.TheVariants as broken
use Rattle.vdb_law.specs.Database.{IsDatabase, IsTidy}
use Rattle.vdb_law.specs.Packages.{Installed}
use Rattle.vdb_text.specs.Faults as reads
use Rattle.vdb_text.specs.Limits.{AreWithin}
use Rattle.vdb_text.specs.declared.fault.DatabaseFault.TheVariants as databases
use Rattle.law_commit.specs.Lit.{packages_of}
use Rattle.run_opening.specs.Order.{IsFirstInOrder}
use Rattle.run_opening.specs.declared.fault.OpeningFault.{OpeningFault}
use Rattle.run_opening.specs.declared.fault.OpeningFault.TheVariants.{Database, Inconsistent}

-- a fault of the tree, as it is carried
abbrev pub fault_of_tree : TreeFault → OpeningFault
fault_of_tree fault = Database (databases.Tree fault)

-- the tree's device failed
abbrev pub device_failed : OpeningFault
device_failed = fault_of_tree trees.Failed

-- memory ran out
abbrev pub out_of_memory : OpeningFault
out_of_memory = fault_of_tree trees.Memory

-- what packages that don't go together are refused with; for want of memory it tells none
abbrev pub refusal_of : Broken → Vec Installed Global → OpeningFault
refusal_of broken.Memory packages = out_of_memory
refusal_of fault packages = Inconsistent fault packages

-- the machine failed, whatever the tree holds
abbrev pub IsOfMachine : OpeningFault → Type 0
IsOfMachine fault = carried.IsOfMachine fault_of_tree fault

-- the map has a database with more of the quantity than may be
abbrev pub HasTooMuch : Map → Quantity → Type 0
HasTooMuch m quantity = reads.HasTooMuch m (databases.Limit quantity)

-- the fault tells what there is too much of with these packages
abbrev pub ArePast : List Installed → OpeningFault → Type 0
ArePast ps (Database fault) = reads.ArePast ps fault
ArePast ps (Inconsistent fault packages) = ⊥

-- the packages don't go together with these flags on, and this is first wrong with them in line
-- order
pub record AreBroken (flags : List (List ℕ)) (ps : List Installed) (fault : Broken) :
    Type 0 where
  pub says : Fault
  pub is : told fault ≡ Some says
  pub first : IsFirstInOrder (packages_of flags ps) says

-- the map's database has these packages, within the limits, which are apart and don't go together
-- with these flags on
pub record IsInconsistent (flags : List (List ℕ)) (m : Map) (ps : List Installed)
    (fault : Broken) : Type 0 where
  pub database : IsDatabase m ps
  pub within : AreWithin ps
  pub tidy : IsTidy ps
  pub broken : AreBroken flags ps fault

-- what is told of packages that don't go together; want of memory says nothing of them
abbrev pub IsUnfit : List (List ℕ) → List Installed → OpeningFault → Type 0
IsUnfit flags ps (Inconsistent fault packages) = (packages.items ≡ ps) × AreBroken flags ps fault
IsUnfit flags ps (Database fault) = fault ≡ databases.Tree trees.Memory

-- what the tree is refused for: that its database has too much, another first fault of the
-- database, or what is wrong with its packages; a failure and want of memory say nothing of it
abbrev pub Refuses : List (List ℕ) → Map → OpeningFault → Type 0
Refuses flags m (Database (databases.Tree fault)) = ⊤
Refuses flags m (Database (databases.Limit quantity)) = HasTooMuch m quantity
Refuses flags m (Database fault) = reads.FirstFault m fault
Refuses flags m (Inconsistent fault packages) = IsInconsistent flags m packages.items fault
