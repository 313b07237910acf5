-- Where a text is cut: before the first of two bytes, and before a byte at its end.
use Rattle.std.specs.Prelude.{◌≡◌, ℕ, Bool, true, false, ◌||◌, ◌==◌, List, [], ◌∷◌, if◌then◌else◌, ⊤}
use Rattle.std.specs.List.{list_any}
use Rattle.std.specs.Char.{is_ascii_alphanumeric}

abbrev pub is_either : ℕ → ℕ → ℕ → Bool
is_either one other b = b == one || b == other

-- neither of the bytes stands in the text
abbrev pub Lacks : ℕ → ℕ → List ℕ → Type 0
Lacks one other bytes = list_any (is_either one other) bytes ≡ false

-- the text is empty, or begins with one of the bytes
abbrev pub Starts : ℕ → ℕ → List ℕ → Type 0
Starts one other [] = ⊤
Starts one other (b ∷ bytes) = is_either one other b ≡ true

-- the byte alone, or nothing
abbrev pub end_text : ℕ → Bool → List ℕ
end_text end has = if has then end ∷ [] else []

-- a byte that may stand in a name of some kind, or in a version
abbrev pub is_plain : ℕ → Bool
is_plain b = is_ascii_alphanumeric b || (b == 43 || (b == 45 || (b == 46 || (b == 64 || b == 95))))
