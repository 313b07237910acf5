-- What a repair begins with, and what a tree is refused for where one would begin with it.
use Rattle.std.specs.Prelude.{◌≡◌, ℕ, List, Vec, Result, Ok, Err, ⊤}
use Rattle.std.specs.Global.{Global}
use Rattle.file_tree.specs.Disk.{Map}
use Rattle.file_tree.specs.declared.fault.TreeFault.TheVariants as trees
use Rattle.pkg_state.specs.Consistent.{AreApart}
use Rattle.pkg_state.specs.declared.broken.Broken.{Broken}
use Rattle.pkg_state.specs.declared.broken.Broken.TheVariants as broken
use Rattle.vdb_law.specs.Database.{IsDatabase, IsTidy}
use Rattle.vdb_law.specs.Packages.{Installed}
use Rattle.vdb_text.specs.declared.fault.DatabaseFault.TheVariants as databases
use Rattle.law_commit.specs.Lit.{packages_of}
use Rattle.run_opening.specs.Faults.{AreBroken, IsInconsistent, Refuses, out_of_memory}
use Rattle.run_opening.specs.declared.fault.OpeningFault.{OpeningFault}
use Rattle.run_opening.specs.declared.fault.OpeningFault.TheVariants.{Database, Inconsistent}

-- these are the packages of the map's database; no two are in each other's way, and no two stand
-- on one line: they may lack what they need, and block each other
pub record HasRepairable (flags : List (List ℕ)) (m : Map) (ps : List Installed) : Type 0 where
  pub database : IsDatabase m ps
  pub tidy : IsTidy ps
  pub apart : AreApart (packages_of flags ps)

-- the fault is that two packages stand on one line
abbrev pub IsOfLines : Broken → Type 0
IsOfLines (broken.SlotTwice one other) = ⊤
IsOfLines (broken.RequiredUse one) = ⊥
IsOfLines (broken.Blocked one by) = ⊥
IsOfLines (broken.Runtime one missing) = ⊥
IsOfLines broken.Memory = ⊥

-- what becomes of packages with this fault where a repair would begin: they are let in, but for two
-- on one line
abbrev pub let_in : Broken → Vec Installed Global → Result (Vec Installed Global) OpeningFault
let_in (broken.SlotTwice one other) packages =
    Err (Inconsistent (broken.SlotTwice one other) packages)
let_in (broken.RequiredUse one) packages = Ok packages
let_in (broken.Blocked one by) packages = Ok packages
let_in (broken.Runtime one missing) packages = Ok packages
let_in broken.Memory packages = Err out_of_memory

-- what is told of packages of which two stand on one line; want of memory says nothing of them
abbrev pub AreCrowded : List (List ℕ) → List Installed → OpeningFault → Type 0
AreCrowded flags ps (Inconsistent fault packages) =
    (packages.items ≡ ps) × AreBroken flags ps fault × IsOfLines fault
AreCrowded flags ps (Database fault) = fault ≡ databases.Tree trees.Memory

-- what the tree is refused for: what is wrong with its database, as for any run, or that two of its
-- packages stand on one line, by the first two of these in line order
abbrev pub RefusesRepair : List (List ℕ) → Map → OpeningFault → Type 0
RefusesRepair flags m (Database fault) = Refuses flags m (Database fault)
RefusesRepair flags m (Inconsistent fault packages) =
    IsInconsistent flags m packages.items fault × IsOfLines fault
