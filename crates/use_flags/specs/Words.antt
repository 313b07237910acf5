-- A text as its words, and the first word that is not as words should be.
use Rattle.std.specs.Prelude.{◌≡◌, ℕ, ◌+◌, ◌<◌, ◌≤◌, Bool, true, false, ◌⊎◌, List, [], ◌∷◌, ◌++◌, length, take, drop, filter, ⊤}
use Rattle.std.specs.List.{All, AllByRecursion, slice_split}
use Rattle.basics.specs.Blanks.{is_blank}

abbrev pub has_bytes : List ℕ → Bool
has_bytes [] = false
has_bytes (b ∷ bytes) = true

-- the pieces between the blanks, without those of no bytes
abbrev pub words : List ℕ → List (List ℕ)
words bytes = filter has_bytes (slice_split is_blank bytes)

-- each word of the text is good
abbrev pub EachWord : (List ℕ → Type 0) → List ℕ → Type 0
EachWord IsGood bytes = AllByRecursion IsGood (words bytes)

-- the text has no bytes, or ends in a blank
abbrev pub EndsInBreak : List ℕ → Type 0
EndsInBreak bytes =
    (bytes ≡ []) ⊎ ((front : List ℕ) × (b : ℕ) × (is_blank b ≡ true) ×
    (bytes ≡ front ++ (b ∷ [])))

-- the text has no bytes, or begins with a blank
abbrev pub BeginsWithBreak : List ℕ → Type 0
BeginsWithBreak [] = ⊤
BeginsWithBreak (b ∷ bytes) = is_blank b ≡ true

-- the text is the word with what stands on both sides of it
pub record IsWordBetween (before word after bytes : List ℕ) : Type 0 where
  pub cut : bytes ≡ before ++ (word ++ after)
  pub some : 0 < length word
  pub solid : All (λ b. is_blank b ≡ false) word
  pub left : EndsInBreak before
  pub right : BeginsWithBreak after

-- what stands before `at` is in form, and with the word that begins there it is not
pub record IsFirstBad (IsGood : List ℕ → Type 0) (bytes : List ℕ) (at : ℕ) : Type 0 where
  pub before : List ℕ
  pub word : List ℕ
  pub after : List ℕ
  pub stands : IsWordBetween before word after bytes
  pub place : length before ≡ at
  pub good : EachWord IsGood before
  pub bad : ¬ EachWord IsGood (before ++ word)

-- the words of the text up to `from` are followed by the word, which begins at `at`
pub record IsNextWord (bytes : List ℕ) (from at : ℕ) (word : List ℕ) : Type 0 where
  pub stands : IsWordBetween (take at bytes) word (drop (at + length word) bytes) bytes
  pub onward : from ≤ at
  pub within : at + length word ≤ length bytes
  pub same : words (take at bytes) ≡ words (take from bytes)
  pub more : words (take (at + length word) bytes) ≡ words (take from bytes) ++ (word ∷ [])
