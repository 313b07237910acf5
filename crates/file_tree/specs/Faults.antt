-- A fault that a layer carries from below.
use Rattle.std.specs.Prelude.{◌≡◌}
use Rattle.file_tree.specs.declared.fault.TreeFault.{TreeFault}

-- the device failed or memory ran out, whatever the tree holds: a fault of the tree's, as this
-- variant carries it
abbrev pub IsOfMachine : {E : Type 0} → (TreeFault → E) → E → Type 0
IsOfMachine carried fault = (of : TreeFault) × (fault ≡ carried of)
