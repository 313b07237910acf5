-- The first fault of a text that is no dependency tree.
use Rattle.std.specs.Prelude.{◌≡◌, ℕ, List}
use Rattle.dep_group.specs.declared.token.GroupFault.{GroupFault}
use Rattle.dep_group.specs.declared.token.GroupFault.TheVariants as groups
use Rattle.dep_group.specs.Texts as texts
use Rattle.dep_tree.specs.Grammar.{grammar, is_block}
use Rattle.dep_tree.specs.declared.fault.TreeTextFault.{TreeTextFault}
use Rattle.dep_tree.specs.declared.fault.TreeTextFault.TheVariants as faults

-- the fault of groups, where the leaves are atoms and no block may stand in an any-of group
abbrev pub named : GroupFault → TreeTextFault
named (groups.Leaf at) = faults.Atom at
named (groups.Barred at) = faults.BlockInAnyOf at
named (groups.Open at) = faults.Open at
named (groups.Close at) = faults.Close at
named (groups.NoSpace at) = faults.NoSpace at
named groups.Depth = faults.Depth
named groups.Memory = faults.Memory

abbrev pub IsMemory : TreeTextFault → Type 0
IsMemory fault = fault ≡ faults.Memory

-- the first fault of the text, as one of groups of atoms
abbrev pub FirstFault : List ℕ → TreeTextFault → Type 0
FirstFault text fault =
    (first : GroupFault) × texts.FirstFault grammar is_block text first × (fault ≡ named first)

-- the text has this fault, which isn't want of memory
abbrev pub HasFault : List ℕ → TreeTextFault → Type 0
HasFault text fault = FirstFault text fault × ¬ IsMemory fault
