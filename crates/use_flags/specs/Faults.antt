-- Which fault a text of items or of changes has first.
use Rattle.std.specs.Prelude.{◌≡◌, ℕ, List, ⊤}
use Rattle.use_flags.specs.declared.fault.UseFault.{UseFault}
use Rattle.use_flags.specs.declared.fault.UseFault.TheVariants.{Item, Memory}
use Rattle.use_flags.specs.Words.{IsFirstBad}

-- but for want of memory there is one fault at most
abbrev pub HasOneFault : (UseFault → Type 0) → Type 0
HasOneFault IsFault =
    (a b : UseFault) → IsFault a → IsFault b → ¬ (a ≡ Memory) → ¬ (b ≡ Memory) → a ≡ b

-- but for want of memory there is none
abbrev pub HasNoFault : (UseFault → Type 0) → Type 0
HasNoFault IsFault = (a : UseFault) → IsFault a → a ≡ Memory

-- the fault is the first word with which the text is not in form; memory may run out on any text
abbrev pub FirstFault : (List ℕ → Type 0) → List ℕ → UseFault → Type 0
FirstFault IsGood bytes (Item at) = IsFirstBad IsGood bytes at
FirstFault IsGood bytes Memory = ⊤
