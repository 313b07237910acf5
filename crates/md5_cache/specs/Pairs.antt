-- The text of a cache entry as pairs of keys and values (PMS 14.3).
use Rattle.std.specs.Prelude.{◌≡◌, ◌<◌, ℕ, Bool, List, [], ◌∷◌, ◌==◌, length, map}
use Rattle.std.specs.List.{AllByRecursion, after_first, before_first, position_or_len, slice_split}
use Rattle.std.specs.Str.{IsUtf8}
use Rattle.basics.specs.Members.{AreDistinct}
use Rattle.config_text.specs.Lines.{is_newline}
use Rattle.md5_cache.specs.declared.pair.Pair.{Pair}

abbrev pub is_equals : ℕ → Bool
is_equals b = b == 61

-- the lines without a last one that is empty
abbrev pub without_empty_end : List (List ℕ) → List (List ℕ)
without_empty_end [] = []
without_empty_end ([] ∷ []) = []
without_empty_end ((b ∷ bytes) ∷ []) = (b ∷ bytes) ∷ []
without_empty_end (line ∷ next ∷ lines) = line ∷ without_empty_end (next ∷ lines)

-- the lines of the text; the newline of the last one may be missing
abbrev pub entry_lines : List ℕ → List (List ℕ)
entry_lines bytes = without_empty_end (slice_split is_newline bytes)

-- the line has an equals sign
abbrev pub HasEquals : List ℕ → Type 0
HasEquals line = position_or_len is_equals line < length line

-- what stands on both sides of the line's first equals sign
abbrev pub pair_of : List ℕ → Pair
pair_of line = record { key = before_first is_equals line; value = after_first is_equals line }

-- the key and the value are those of the line
pub record IsSplit (line key value : List ℕ) : Type 0 where
  pub has : HasEquals line
  pub key_is : key ≡ before_first is_equals line
  pub value_is : value ≡ after_first is_equals line

-- the pairs of the text, line by line
abbrev pub pairs_of : List ℕ → List Pair
pairs_of bytes = map pair_of (entry_lines bytes)

abbrev pub keys_of : List Pair → List (List ℕ)
keys_of pairs = map (λ p. p.key) pairs

-- the text is one of pairs, no two of which have one key
pub record IsPairsText (bytes : List ℕ) : Type 0 where
  pub utf8 : IsUtf8 bytes
  pub split : AllByRecursion HasEquals (entry_lines bytes)
  pub once : AreDistinct (keys_of (pairs_of bytes))
