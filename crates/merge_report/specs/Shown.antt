-- A text from outside as a line shows it, so that it can neither end the line nor drive a terminal.
use Rattle.std.specs.Prelude.{ℕ, ◌/◌, ◌%◌, List, [], ◌∷◌, if◌then◌else◌, chars, encode_utf8}
use Rattle.std.specs.Char.{digit_char, is_control}
use Rattle.std.specs.List.{flat_map}
use Rattle.std.specs.Str.{NoCharPasses}

-- a backslash, an `x` and the character's number in two hexadecimal digits
abbrev pub escape : ℕ → List ℕ
escape c = 92 ∷ 120 ∷ digit_char (c / 16) ∷ digit_char (c % 16) ∷ []

-- a control character, which has a number below 32 or from 127 to 159, is escaped, and any other
-- one is itself
abbrev pub shown_char : ℕ → List ℕ
shown_char c = if is_control c then escape c else encode_utf8 c

abbrev pub shown : List ℕ → List ℕ
shown text = flat_map shown_char (chars text)

-- a text without a control character
abbrev pub IsPlain : List ℕ → Type 0
IsPlain text = NoCharPasses is_control text
