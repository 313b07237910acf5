-- What is written to a sink.
use Rattle.std.specs.Prelude.{◌≡◌, ◌++◌, ℕ, List, take}

-- what was written since then has P
abbrev pub Wrote : (List ℕ → Type 0) → List ℕ → List ℕ → Type 0
Wrote P old new = (text : List ℕ) × P text × (new ≡ old ++ text)

-- some beginning of a text
abbrev pub IsBeginning : List ℕ → List ℕ → Type 0
IsBeginning whole text = (n : ℕ) × (text ≡ take n whole)
