-- When a list of objects makes no tree.
use Rattle.std.specs.Prelude.{◌≡◌, ℕ, List, IsSome, ⊤}
use Rattle.tree_mem.specs.declared.fault.MemFault.{MemFault}
use Rattle.tree_mem.specs.declared.fault.MemFault.TheVariants.{Twice, Memory}
use Rattle.tree_mem.specs.Items.{IsFirstRepeat, Item, held}

-- the fault of a list with these paths
abbrev pub IsMemFault : List (List ℕ) → MemFault → Type 0
IsMemFault names (Twice p) = IsFirstRepeat names p
IsMemFault names Memory = ⊤

-- the fault of one more item with the path p
abbrev pub IsFaultAt : List Item → List ℕ → MemFault → Type 0
IsFaultAt es p (Twice q) = (q ≡ p) × IsSome (held es p)
IsFaultAt es p Memory = ⊤
