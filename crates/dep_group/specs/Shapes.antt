-- What a word is to a text of groups (PMS 7.3.4, 8.2).
use Rattle.std.specs.List.{list_any}
use Rattle.std.specs.Prelude.{◌≡◌, ℕ, ◌-◌, Bool, true, false, not, if◌then◌else◌, ◌||◌, ◌&&◌, ◌==◌, List, [], ◌∷◌, ◌++◌, length, slice_index, bytes_eq}
use Rattle.dep_group.specs.declared.shape.Shape.{Shape}
use Rattle.dep_group.specs.declared.shape.Shape.TheVariants.{Opens, Closes, Glued, AnyOf, ExactlyOne, AtMostOne, When, Item}

abbrev pub open_parenthesis : ℕ
open_parenthesis = 40

abbrev pub close_parenthesis : ℕ
close_parenthesis = 41

abbrev pub question_mark : ℕ
question_mark = 63

abbrev pub exclamation_mark : ℕ
exclamation_mark = 33

abbrev pub is_parenthesis : ℕ → Bool
is_parenthesis b = b == open_parenthesis || b == close_parenthesis

-- whether the byte after `b` stands in square brackets
abbrev pub stays_inside : Bool → ℕ → Bool
stays_inside inside b = b == 91 || (inside && not (b == 93))

-- a parenthesis stands in the bytes outside square brackets, in which the values of unknown flags
-- are written
abbrev pub has_parenthesis : Bool → List ℕ → Bool
has_parenthesis inside [] = false
has_parenthesis inside (b ∷ bs) =
    (not inside && is_parenthesis b) || has_parenthesis (stays_inside inside b) bs

-- a parenthesis stands in the word; where brackets keep what stands in them, outside of these
abbrev pub is_glued : Bool → List ℕ → Bool
is_glued true word = has_parenthesis false word
is_glued false word = list_any is_parenthesis word

-- the last byte is a question mark
abbrev pub asks : List ℕ → Bool
asks word = slice_index word (length word - 1) == question_mark

-- the first byte is an exclamation mark
abbrev pub denies : List ℕ → Bool
denies word = slice_index word 0 == exclamation_mark

-- what the word is, in a text whose words may have brackets, or none
abbrev pub shape : Bool → List ℕ → Shape
shape brackets word =
    if bytes_eq word (open_parenthesis ∷ []) then Opens
    else if bytes_eq word (close_parenthesis ∷ []) then Closes
    else if is_glued brackets word then Glued
    else if bytes_eq word (124 ∷ 124 ∷ []) then AnyOf
    else if bytes_eq word (94 ∷ 94 ∷ []) then ExactlyOne
    else if bytes_eq word (63 ∷ 63 ∷ []) then AtMostOne
    else if asks word then When (not (denies word))
    else Item

-- the word is a condition on a flag that is to be on, or off, with brackets or without
abbrev pub IsCondition : List ℕ → Bool → Type 0
IsCondition word on = (brackets : Bool) × (shape brackets word ≡ When on)

-- the word that opens a group where the flag is on, or off
abbrev pub condition : List ℕ → Bool → List ℕ
condition flag true = flag ++ question_mark ∷ []
condition flag false = exclamation_mark ∷ (flag ++ question_mark ∷ [])
