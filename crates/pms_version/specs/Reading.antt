-- The first fault of a text that is no version within the limits.
use Rattle.std.specs.Prelude.{ℕ, ◌≡◌, ◌+◌, ◌<◌, ◌≤◌, List, length, take, drop, ⊤}
use Rattle.pms_version.specs.declared.limits.TheConstants.{MOST_BYTES, MOST_DIGITS}
use Rattle.pms_grammar.specs.Grammar.{BeginsVersion, StopsAt}
use Rattle.pms_version.specs.Limits.{digit_count}
use Rattle.pms_version.specs.declared.fault.VersionFault.{VersionFault}
use Rattle.pms_version.specs.declared.fault.VersionFault.TheVariants.{Empty, BadChar, TooManyDigits, TooLong, Memory}

-- before the place no more digits in a row than a number may have begin
abbrev pub IsShortBefore : List ℕ → ℕ → Type 0
IsShortBefore bytes at = (k : ℕ) → k < at → digit_count (drop k bytes) ≤ MOST_DIGITS

-- what is true of the text at each fault: it is empty; else it is too long; else the first of the
-- other two stands there
abbrev pub FirstFault : List ℕ → VersionFault → Type 0
FirstFault bytes Empty = length bytes ≡ 0
FirstFault bytes TooLong = MOST_BYTES < length bytes
FirstFault bytes (BadChar at) =
    (0 < length bytes) × (length bytes ≤ MOST_BYTES) × StopsAt bytes at × IsShortBefore bytes at
FirstFault bytes (TooManyDigits at) =
    (0 < length bytes) × (length bytes ≤ MOST_BYTES) × (MOST_DIGITS < digit_count (drop at bytes))
    × IsShortBefore bytes at × BeginsVersion (take (at + 1) bytes)
FirstFault bytes Memory = ⊤
