-- The words of a text: what stands between blanks (PMS 8.2: white space parts the tokens).
use Rattle.std.specs.Prelude.{ℕ, ◌+◌, Bool, true, false, not, ◌&&◌, if◌then◌else◌, List, [], ◌∷◌, ◌++◌, map, nat_lt, slice_index, slice_range}
use Rattle.basics.specs.Blanks.{is_blank}

-- a word, and the place of its first byte
pub record Spot : Type 0 where
  pub at : ℕ
  pub bytes : List ℕ

-- a word begins right where the bytes do
abbrev pub begins_word : List ℕ → Bool
begins_word [] = false
begins_word (b ∷ bs) = not (is_blank b)

-- the byte before a text with these words: in front of its first word where that follows at once,
-- else a word of its own
abbrev pub with_letter : ℕ → ℕ → Bool → List Spot → List Spot
with_letter at b true (w ∷ ws) = record { at = at; bytes = b ∷ w.bytes } ∷ ws
with_letter at b true [] = record { at = at; bytes = b ∷ [] } ∷ []
with_letter at b false ws = record { at = at; bytes = b ∷ [] } ∷ ws

-- the words of a text whose first byte stands at `at`
abbrev pub words : ℕ → List ℕ → List Spot
words at [] = []
words at (b ∷ bs) =
    if is_blank b then words (at + 1) bs else with_letter at b (begins_word bs) (words (at + 1) bs)

-- what the words say, without their places
abbrev pub texts : List Spot → List (List ℕ)
texts = map (λ w. w.bytes)

-- the words of the text, without their places
abbrev pub words_of : List ℕ → List (List ℕ)
words_of text = texts (words 0 text)

-- the place of the word with this index
abbrev pub place : List Spot → ℕ → ℕ
place ws index = slice_index (map (λ w. w.at) ws) index

-- a text has no blank in it, and is not empty
abbrev pub is_word : List ℕ → Bool
is_word [] = false
is_word (b ∷ []) = not (is_blank b)
is_word (b ∷ (c ∷ bs)) = not (is_blank b) && is_word (c ∷ bs)

-- a space behind a text that has bytes
abbrev pub and_space : List ℕ → List ℕ
and_space [] = []
and_space (b ∷ bs) = (b ∷ bs) ++ 32 ∷ []

-- the text and then the words, with a space before each word that something stands before
abbrev pub spaced_after : List ℕ → List (List ℕ) → List ℕ
spaced_after text [] = text
spaced_after text (w ∷ ws) = spaced_after (and_space text ++ w) ws

-- the words with one space between each two
abbrev pub spaced : List (List ℕ) → List ℕ
spaced ws = spaced_after [] ws

-- the word from `start` to `end`, where these bytes have some
abbrev pub word_between : List ℕ → ℕ → ℕ → List Spot
word_between text start end =
    if nat_lt start end then record { at = start; bytes = slice_range text start end } ∷ [] else []
