-- What a person's terminal is shown.
use Rattle.std.specs.Prelude.{◌≡◌, ℕ, List, [], ◌∷◌, ◌++◌, codes}
use Rattle.std.specs.List.{AllByRecursion, flat_map}
use Rattle.merge_report.specs.Shown.{IsPlain}

-- a line of the program
abbrev pub told_line : List ℕ → List ℕ
told_line words = codes "emerge: " ++ (words ++ 10 ∷ [])

-- lines of the program, none of which has a control character
abbrev pub IsTold : List ℕ → Type 0
IsTold text = (lines : List (List ℕ)) × AllByRecursion IsPlain lines
    × (text ≡ flat_map told_line lines)
