-- What readers promise, and what is said of faults.
use Rattle.std.specs.Prelude.{◌≡◌, ℕ, List, Option, Result, IfOk, MatchOption, MatchResult}
use Rattle.std.specs.declared.alloc.AllocError.{AllocError}
use Rattle.dep_atom.specs.declared.fault.AtomFault.{AtomFault}
use Rattle.dep_atom.specs.declared.fault.AtomFault.TheVariants.{Memory}

-- what is in form and so spelled is what is read, unless memory runs out
abbrev pub ReadsBack : {A : Type 0} → (A → Type 0) → (A → List ℕ) → List ℕ → Result A AtomFault →
    Type 0
ReadsBack {A} Form spelled text result =
    (a : A) → Form a → text ≡ spelled a → MatchResult result (λ r. r ≡ a) (λ e. e ≡ Memory)

-- something is found, and Found says what, just where it is there
abbrev pub FindsWhere : {A : Type 0} → Type 0 → (A → Type 0) → Result (Option A) AllocError → Type 0
FindsWhere IsThere Found result = IfOk result (λ r. MatchOption r (¬ IsThere) Found)

-- but for want of memory there is one fault at most
abbrev pub HasOneFault : (AtomFault → Type 0) → Type 0
HasOneFault IsFault =
    (a b : AtomFault) → IsFault a → IsFault b → (¬ (a ≡ Memory)) → (¬ (b ≡ Memory)) → a ≡ b

-- but for want of memory there is none
abbrev pub HasNoFault : (AtomFault → Type 0) → Type 0
HasNoFault IsFault = (a : AtomFault) → IsFault a → a ≡ Memory
