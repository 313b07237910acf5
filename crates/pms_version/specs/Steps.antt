-- What reading the parts of a version one after another has come to.
use Rattle.std.specs.Prelude.{ℕ, ◌≡◌, false, List, [], ◌++◌, slice_index}
use Rattle.std.specs.List.{AllByRecursion, flat_map}
use Rattle.basics.specs.Bytes.{is_digit}
use Rattle.pms_grammar.specs.Grammar.{AreDigits, IsInteger, IsLetter, SuffixValue, spell_number, spell_ending}

-- neither a number nor a further number goes on here
pub record EndsNumbers (after : List ℕ) : Type 0 where
  pub no_digit : is_digit (slice_index after 0) ≡ false
  pub no_dot : ¬ (slice_index after 0 ≡ 46)

-- of the numbers that the bytes spell some are done, and what is left spells the rest
abbrev pub ReadsNumbers : List ℕ → List (List ℕ) → List ℕ → Type 0
ReadsNumbers bytes done left =
    (ns : List (List ℕ)) (after : List ℕ) → AllByRecursion IsInteger ns → EndsNumbers after →
    bytes ≡ flat_map spell_number ns ++ after →
    (rest : List (List ℕ)) × (ns ≡ done ++ rest) × AllByRecursion IsInteger rest ×
    (left ≡ flat_map spell_number rest ++ after)

-- all the numbers that the bytes spell are done
abbrev pub HasReadNumbers : List ℕ → List (List ℕ) → List ℕ → Type 0
HasReadNumbers bytes done left =
    (ns : List (List ℕ)) (after : List ℕ) → AllByRecursion IsInteger ns → EndsNumbers after →
    bytes ≡ flat_map spell_number ns ++ after →
    (done ≡ ns) × (left ≡ after)

abbrev pub AreSuffixes : List SuffixValue → Type 0
AreSuffixes ss = AllByRecursion (λ (s : SuffixValue). AreDigits s.digits) ss

-- the letter or none, and what follows
abbrev pub HasReadLetter : List ℕ → List ℕ → List ℕ → Type 0
HasReadLetter bytes letter left =
    (l : List ℕ) (ss : List SuffixValue) (r : List ℕ) → IsLetter l → AreSuffixes ss → AreDigits r →
    bytes ≡ l ++ spell_ending ss r →
    (letter ≡ l) × (left ≡ spell_ending ss r)

-- of the suffixes some are done, and what is left spells the rest
abbrev pub ReadsSuffixes : List ℕ → List SuffixValue → List ℕ → Type 0
ReadsSuffixes bytes done left =
    (ss : List SuffixValue) (r : List ℕ) → AreSuffixes ss → AreDigits r →
    bytes ≡ spell_ending ss r →
    (rest : List SuffixValue) × (ss ≡ done ++ rest) × AreSuffixes rest ×
    (left ≡ spell_ending rest r)

-- all the suffixes are done
abbrev pub HasReadSuffixes : List ℕ → List SuffixValue → List ℕ → Type 0
HasReadSuffixes bytes done left =
    (ss : List SuffixValue) (r : List ℕ) → AreSuffixes ss → AreDigits r →
    bytes ≡ spell_ending ss r →
    (done ≡ ss) × (left ≡ spell_ending [] r)
