-- What the reader of a text gives, where each value has one spelling.
use denote.Ref.{Bor}
use Rattle.std.specs.Prelude.{◌≡◌, ◌≢◌, ◌<◌, ℕ, List, [], ◌∷◌, ◌++◌, length, slice_index, Option, MatchOption}

-- what is in form and so spelled, or nothing where nothing in form is so spelled
abbrev pub Reads : {A W : Type 0} → (A → Type 0) → (A → W) → W → Option A → Type 0
Reads {A} InForm spelling text result =
    MatchOption result ((x : A) → InForm x → ¬ (text ≡ spelling x))
    (λ x. InForm x × (text ≡ spelling x))

-- there is no word, or more than one
abbrev pub IsNoSingle : List (List ℕ) → Type 0
IsNoSingle ws = (w : List ℕ) → ¬ (ws ≡ w ∷ [])

-- the byte stands nowhere in the text
abbrev pub Lacks : ℕ → List ℕ → Type 0
Lacks byte text = (i : ℕ) → i < length text → slice_index text i ≢ byte

-- the text around the first such byte, or nothing where it has none
abbrev pub SplitsAt : ℕ → List ℕ → Option (Bor (List ℕ) × Bor (List ℕ)) → Type 0
SplitsAt byte text result =
    MatchOption result
    ((front back : List ℕ) → Lacks byte front → ¬ (text ≡ front ++ (byte ∷ back)))
    (λ p. (text ≡ p.0.now ++ (byte ∷ p.1.now)) × ((front back : List ℕ) → Lacks byte front →
    text ≡ front ++ (byte ∷ back) → (p.0.now ≡ front) × (p.1.now ≡ back)))
