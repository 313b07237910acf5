-- The limits on versions that are read: on their bytes, and on the digits of a number.
use Rattle.std.specs.Prelude.{ℕ, ◌≤◌, List, length, drop}
use Rattle.std.specs.List.{prefix_len}
use Rattle.basics.specs.Bytes.{is_digit}
use Rattle.pms_version.specs.declared.limits.TheConstants.{MOST_BYTES, MOST_DIGITS}
use Rattle.pms_grammar.specs.Grammar.{VersionValue, IsVersion, spelling}

-- how many digits stand at the beginning
abbrev pub digit_count : List ℕ → ℕ
digit_count bytes = prefix_len is_digit bytes

-- nowhere more digits in a row than a number may have
abbrev pub HasShortNumbers : List ℕ → Type 0
HasShortNumbers bytes = (k : ℕ) → digit_count (drop k bytes) ≤ MOST_DIGITS

-- the parts of a version whose text is within the limits
pub record IsReadable (p : VersionValue) : Type 0 where
  pub version : IsVersion p
  pub short : length (spelling p) ≤ MOST_BYTES
  pub numbers : HasShortNumbers (spelling p)
