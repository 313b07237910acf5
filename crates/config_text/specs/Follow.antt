-- Lists of parts, each of which is in form in front of what stands behind it.
use Rattle.std.specs.Prelude.{◌≡◌, ℕ, Bool, false, List, [], ◌∷◌, ◌++◌, ⊤}
use Rattle.std.specs.List.{flat_map}

-- the parts are in form in front of the text
abbrev pub Follow : {A : Type 0} → (A → List ℕ → Type 0) → (A → List ℕ) → List A → List ℕ → Type 0
Follow IsIn spell [] after = ⊤
Follow IsIn spell (x ∷ xs) after =
    IsIn x (flat_map spell xs ++ after) × Follow IsIn spell xs after

-- the text is empty, or its first byte is none of those
abbrev pub Stops : (ℕ → Bool) → List ℕ → Type 0
Stops test [] = ⊤
Stops test (b ∷ bytes) = test b ≡ false
