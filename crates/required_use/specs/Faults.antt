-- The first fault of a text that is no REQUIRED_USE.
use Rattle.std.specs.Prelude.{◌≡◌, ℕ, Bool, true, false, List, ◌∷◌}
use Rattle.dep_group.specs.declared.token.GroupFault.{GroupFault}
use Rattle.dep_group.specs.declared.token.GroupFault.TheVariants as groups
use Rattle.dep_group.specs.Shapes.{denies, exclamation_mark}
use Rattle.dep_group.specs.Texts as texts
use Rattle.required_use.specs.Grammar.{grammar, never}
use Rattle.required_use.specs.declared.fault.RequiredFault.{RequiredFault}
use Rattle.required_use.specs.declared.fault.RequiredFault.TheVariants as faults

-- the fault of groups, where the leaves are items; no item is barred
abbrev pub named : GroupFault → RequiredFault
named (groups.Leaf at) = faults.Item at
named (groups.Barred at) = faults.Item at
named (groups.Open at) = faults.Open at
named (groups.Close at) = faults.Close at
named (groups.NoSpace at) = faults.NoSpace at
named groups.Depth = faults.Depth
named groups.Memory = faults.Memory

abbrev pub IsMemory : RequiredFault → Type 0
IsMemory fault = fault ≡ faults.Memory

-- the first fault of the text, as one of groups of items
abbrev pub FirstFault : List ℕ → RequiredFault → Type 0
FirstFault text fault =
    (first : GroupFault) × texts.FirstFault grammar never text first × (fault ≡ named first)

-- the text has this fault, which isn't want of memory
abbrev pub HasFault : List ℕ → RequiredFault → Type 0
HasFault text fault = FirstFault text fault × ¬ IsMemory fault

-- the bytes without the exclamation mark at their beginning, if one is there
abbrev pub IsDenial : List ℕ → Bool → List ℕ → Type 0
IsDenial word true rest = (word ≡ rest) × (denies word ≡ false)
IsDenial word false rest = word ≡ exclamation_mark ∷ rest
