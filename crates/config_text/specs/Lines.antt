-- A text as its lines.
use Rattle.std.specs.Prelude.{ℕ, Bool, ◌+◌, false, not, ◌||◌, ◌&&◌, ◌==◌, List, [], ◌∷◌, filter, min, count_by}
use Rattle.std.specs.List.{list_any, slice_split}
use Rattle.basics.specs.Blanks.{is_blank}
use Rattle.config_text.specs.declared.line.Line.{Line}

abbrev pub is_newline : ℕ → Bool
is_newline b = b == 10

-- the greatest number of a line
abbrev pub most_lines : ℕ
most_lines = 4294967295

-- the number of the line behind so many newlines
abbrev pub line_number : ℕ → ℕ
line_number newlines = min (newlines + 1) most_lines

-- the number of the line that goes on behind the text
abbrev pub line_behind : List ℕ → ℕ
line_behind front = line_number (count_by is_newline front)

-- the line's first byte is `#`
abbrev pub begins_with_hash : List ℕ → Bool
begins_with_hash [] = false
begins_with_hash (b ∷ bytes) = b == 35

-- the line has more than blanks, and doesn't begin with `#`
abbrev pub counts : List ℕ → Bool
counts line = not (begins_with_hash line) && list_any (λ b. not (is_blank b)) line

-- the pieces as lines, the first of which has so many newlines before it
abbrev pub numbered : ℕ → List (List ℕ) → List Line
numbered newlines [] = []
numbered newlines (piece ∷ pieces) =
    record { number = line_number newlines; text = piece } ∷ numbered (newlines + 1) pieces

-- the lines of a list that count
abbrev pub counted : List Line → List Line
counted ls = filter (λ line. counts line.text) ls

-- the lines that count, of all pieces between newlines
abbrev pub lines : List ℕ → List Line
lines bytes = counted (numbered 0 (slice_split is_newline bytes))
