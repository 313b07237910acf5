-- The numbers of options, and the texts that are none.
use Rattle.std.specs.Prelude.{◌≡◌, ⊤, string_bytes, ℕ, Bool, ◌&&◌, nat_le, nat_lt, if◌then◌else◌, List, [], ◌∷◌, ◌++◌, length, Option, Some, None, is_some, option_and_then}
use Rattle.std.specs.List.{list_all}
use Rattle.std.specs.Str.Parse.{digits_value}
use Rattle.basics.specs.Bytes.{is_digit}
use Rattle.emerge_words.specs.Lines.{LineValue}
use Rattle.emerge_words.specs.declared.numbers.Numbers.{Numbers}
use Rattle.emerge_words.specs.declared.request.WordFault.{WordFault}
use Rattle.emerge_words.specs.declared.request.WordFault.TheVariants.{Usage, BadAtom, BadNumber, Memory}

-- the greatest number of digits in the text of a number
abbrev pub most_digits : ℕ
most_digits = 10

-- the greatest number of groups under way at a time
abbrev pub most_jobs : ℕ
most_jobs = 16

-- the greatest number of choices that the search may take back
abbrev pub most_backtrack : ℕ
most_backtrack = 20000

-- the greatest number of flags that may be changed
abbrev pub most_flag_changes : ℕ
most_flag_changes = 2

-- the greatest number of packages that a load may have
abbrev pub most_load : ℕ
most_load = 4000

-- one digit or more, and not too many
abbrev pub is_numeral : List ℕ → Bool
is_numeral text =
    nat_lt 0 (length text) && (nat_le (length text) most_digits && list_all is_digit text)

-- the number that a text of digits writes
abbrev pub numeral_in : List ℕ → Option ℕ
numeral_in text = if is_numeral text then Some (digits_value 10 text) else None

-- the number, if it is from `least` to `most`
abbrev pub if_between : ℕ → ℕ → ℕ → Option ℕ
if_between least most n = if nat_le least n && nat_le n most then Some n else None

-- the number that a text writes, if it is from `least` to `most`
abbrev pub number_in : ℕ → ℕ → List ℕ → Option ℕ
number_in least most text = option_and_then (if_between least most) (numeral_in text)

-- the text of an option, where it writes no number that the option takes
abbrev pub bad_number : ℕ → ℕ → Option (List ℕ) → List (List ℕ)
bad_number least most None = []
bad_number least most (Some text) = if is_some (number_in least most text) then [] else text ∷ []

-- the number of an option, or the one that stands for none
abbrev pub number_or : ℕ → Option (List ℕ) → ℕ
number_or otherwise None = otherwise
number_or otherwise (Some text) = digits_value 10 text

-- the texts of options that are no number which the option takes
abbrev pub bad_numbers : LineValue → List (List ℕ)
bad_numbers line = bad_number 1 most_jobs line.jobs
    ++ (bad_number 1 most_backtrack line.backtrack
    ++ (bad_number 0 most_flag_changes line.flag_changes ++ bad_number 1 most_load line.load))

-- the numbers of the line
pub record AreNumbers (line : LineValue) (n : Numbers) : Type 0 where
  pub jobs : n.jobs ≡ number_or 1 line.jobs
  pub backtrack : n.backtrack ≡ number_or 10000 line.backtrack
  pub flips : n.flips ≡ number_or 0 line.flag_changes
  pub load : n.load ≡ number_or 0 line.load

-- the fault tells this text as a bad number, or that memory ran out
abbrev pub TellsNumber : List ℕ → WordFault → Type 0
TellsNumber text Usage = ⊥
TellsNumber text (BadAtom told) = ⊥
TellsNumber text (BadNumber told) = string_bytes told ≡ text
TellsNumber text Memory = ⊤
