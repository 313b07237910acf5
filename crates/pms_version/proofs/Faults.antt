-- Faults, and runs of digits.
use Rattle.std.specs.Prelude.{true, false, ◌==◌}
use Rattle.std.specs.List.{flat_map}
use Rattle.std.proofs.Common.{◌≡◌, ◌∙◌, ℕ, ◌+◌, ◌-◌, ◌<◌, ◌≤◌, inl, inr, List, [], ◌∷◌, ◌++◌, length, take, drop, get_or, refl, sym, ap, subst, arith, append_assoc, length-drop}
use Rattle.std.proofs.lemmas.Bool.{both_ways, cases_lt, eqb-false}
use Rattle.std.proofs.lemmas.List.{take-append-drop, take-take, get_or-drop}
use Rattle.std.proofs.lemmas.List.Sums.{prefix_len_passes, prefix_len_stops, prefix_len-le-length}
use Rattle.basics.specs.Bytes.{is_digit}
use Rattle.pms_grammar.proofs.Stops.{stops_no_version}
use Rattle.pms_grammar.specs.Grammar.{IsInteger, VersionValue, IsVersion, IsVersionText, BeginsVersion, StopsAt, spell_number, spell_ending, spelling}
use Rattle.pms_version.specs.Limits.{digit_count, HasShortNumbers, IsReadable}
use Rattle.pms_version.specs.Reading.{IsShortBefore, FirstFault}
use Rattle.pms_version.specs.declared.fault.VersionFault.{VersionFault}
use Rattle.pms_version.specs.declared.fault.VersionFault.TheVariants.{Empty, BadChar, TooManyDigits, TooLong, Memory}

pub version_begins_so : (n : ℕ) (bytes : List ℕ) → IsVersionText bytes → BeginsVersion (take n bytes)
version_begins_so n bytes text = (drop n bytes, subst IsVersionText (sym (take-append-drop n bytes)) text)

begins_within : (bytes : List ℕ) (m n : ℕ) → m ≤ n → BeginsVersion (take n bytes) → BeginsVersion (take m bytes)
begins_within bytes m n h begins =
    let front : take m (take n bytes) ≡ take m bytes = take-take m n bytes h in
    let cut : take n bytes ≡ take m bytes ++ drop m (take n bytes) = sym (take-append-drop m (take n bytes)) ∙ ap (λ xs. xs ++ drop m (take n bytes)) front in
    (drop m (take n bytes) ++ begins.0, subst IsVersionText (ap (λ xs. xs ++ begins.0) cut ∙ append_assoc (take m bytes) (drop m (take n bytes)) begins.0) begins.1)

pub begins_before_stop : (n at : ℕ) (bytes : List ℕ) → n ≤ at → StopsAt bytes at → BeginsVersion (take n bytes)
begins_before_stop n at bytes h stop = begins_within bytes n at h stop.begins

pub not_zero : (bytes : List ℕ) → (length bytes == 0) ≡ false → 0 < length bytes
not_zero bytes h = let ne : length bytes ≡ 0 → ⊥ = eqb-false (length bytes) 0 h in omega arith

pub row-more : (bytes : List ℕ) (start at : ℕ) → ((k : ℕ) → start ≤ k → k < at → is_digit (get_or bytes k 0) ≡ true) → is_digit (get_or bytes at 0) ≡ true → (k : ℕ) → start ≤ k → k < at + 1 → is_digit (get_or bytes k 0) ≡ true
row-more bytes start at before here k l h = elim (cases_lt k at) [
  | inl inside ↦ before k l inside
  | inr last ↦ let same : at ≡ k = omega arith in subst (λ i. is_digit (get_or bytes i 0) ≡ true) same here
]

-- a row of digits is counted
pub digit_count-row : (bytes : List ℕ) (start n : ℕ) → start + n ≤ length bytes → ((k : ℕ) → start ≤ k → k < start + n → is_digit (get_or bytes k 0) ≡ true) → n ≤ digit_count (drop start bytes)
digit_count-row bytes start n l h = elim (cases_lt (digit_count (drop start bytes)) n) [
  | inl short ↦
      let count = digit_count (drop start bytes) in
      let inside : count < length (drop start bytes) = omega (arith, length-drop start bytes) in
      absurd (both_ways (is_digit (get_or bytes (start + count) 0)) (sym (ap is_digit (get_or-drop start bytes count 0)) ∙ prefix_len_stops is_digit (drop start bytes) 0 inside) (h (start + count) (omega arith) (omega arith)))
  | inr enough ↦ enough
]

-- no row goes past a byte that is no digit
pub digit_count-stops : (bytes : List ℕ) (k at : ℕ) → k ≤ at → is_digit (get_or bytes at 0) ≡ false → digit_count (drop k bytes) ≤ at - k
digit_count-stops bytes k at l h = elim (cases_lt (at - k) (digit_count (drop k bytes))) [
  | inl long ↦
      let there : k + (at - k) ≡ at = omega arith in
      let digit : is_digit (get_or bytes at 0) ≡ true = sym (ap (λ i. is_digit (get_or bytes i 0)) there) ∙ (sym (ap is_digit (get_or-drop k bytes (at - k) 0)) ∙ prefix_len_passes is_digit (drop k bytes) (at - k) 0 long) in
      absurd (both_ways (is_digit (get_or bytes at 0)) h digit)
  | inr short ↦ short
]

pub short_past : (bytes : List ℕ) (start at : ℕ) → IsShortBefore bytes start → at - start ≤ 38 → is_digit (get_or bytes at 0) ≡ false → IsShortBefore bytes (at + 1)
short_past bytes start at short few other k h = elim (cases_lt k start) [
  | inl before ↦ short k before
  | inr from ↦ let count : digit_count (drop k bytes) ≤ at - k = digit_count-stops bytes k at (omega arith) other in omega arith
]

pub short_to_end : (bytes : List ℕ) (start : ℕ) → IsShortBefore bytes start → length bytes - start ≤ 38 → HasShortNumbers bytes
short_to_end bytes start short few k = elim (cases_lt k start) [
  | inl before ↦ short k before
  | inr from ↦
      let count : digit_count (drop k bytes) ≤ length (drop k bytes) = prefix_len-le-length is_digit (drop k bytes) in
      omega (arith, length-drop k bytes)
]

not_empty : (p : VersionValue) → IsVersion p → 0 < length (spelling p)
not_empty p v = some_digits p.first (flat_map spell_number p.more ++ (p.letter ++ spell_ending p.suffixes p.revision)) v.first
  where
    some_digits : (ds rest : List ℕ) → IsInteger ds → 0 < length (ds ++ rest)
    some_digits [] rest h = absurd h
    some_digits (d ∷ ds) rest h = omega arith

-- the text of a version within the limits has no fault but want of memory
pub no_fault : (text : List ℕ) (fault : VersionFault) → FirstFault text fault → (p : VersionValue) → IsReadable p → text ≡ spelling p → fault ≡ Memory
no_fault text Empty f p r e = let some : 0 < length (spelling p) = not_empty p r.version in absurd (omega (arith, ap length e))
no_fault text TooLong f p r e = let short : length (spelling p) ≤ 255 = r.short in absurd (omega (arith, ap length e))
no_fault text (BadChar at) f p r e = absurd (stops_no_version text at f.2 (p, r.version, e))
no_fault text (TooManyDigits at) f p r e =
    let few : digit_count (drop at text) ≤ 38 = subst HasShortNumbers (sym e) r.numbers at in
    let many : 38 < digit_count (drop at text) = f.2 in
    absurd (omega arith)
no_fault text Memory f p r e = refl

-- a text stops at one place
stops_once : (bytes : List ℕ) (m n : ℕ) → StopsAt bytes m → StopsAt bytes n → m < n → ⊥
stops_once bytes m n f g below = let in_range : n ≤ length bytes = g.in_range in f.stops (omega arith) (begins_before_stop (m + 1) n bytes (omega arith) g)

-- a place that a row of digits begins lies within the text
row_within : (bytes : List ℕ) (at : ℕ) → 38 < digit_count (drop at bytes) → at < length bytes
row_within bytes at long = let count : digit_count (drop at bytes) ≤ length (drop at bytes) = prefix_len-le-length is_digit (drop at bytes) in omega (arith, length-drop at bytes)

-- no row of digits is too long where the text stops, nor is one before, nor behind
no_row : (bytes : List ℕ) (m n : ℕ) → StopsAt bytes m → IsShortBefore bytes m → 38 < digit_count (drop n bytes) → BeginsVersion (take (n + 1) bytes) → ⊥
no_row bytes m n stop short long begins = elim (cases_lt n m) [
  | inl before ↦ let few : digit_count (drop n bytes) ≤ 38 = short n before in absurd (omega arith)
  | inr from ↦ let within : n < length bytes = row_within bytes n long in stop.stops (omega arith) (begins_within bytes (m + 1) (n + 1) (omega arith) begins)
]

row_once : (bytes : List ℕ) (m n : ℕ) → 38 < digit_count (drop m bytes) → IsShortBefore bytes n → m < n → ⊥
row_once bytes m n long short below = let few : digit_count (drop m bytes) ≤ 38 = short m below in absurd (omega arith)

same_place : (m n : ℕ) → (m < n → ⊥) → (n < m → ⊥) → m ≡ n
same_place m n h k = elim (cases_lt m n) [
  | inl below ↦ absurd (h below)
  | inr from ↦ elim (cases_lt n m) [ inl above ↦ absurd (k above) | inr to ↦ omega arith ]
]

pub one_fault : (bytes : List ℕ) (a b : VersionFault) → FirstFault bytes a → FirstFault bytes b → (a ≡ Memory → ⊥) → (b ≡ Memory → ⊥) → a ≡ b
one_fault bytes Memory b f g p q = absurd (p refl)
one_fault bytes a Memory f g p q = absurd (q refl)
one_fault bytes Empty Empty f g p q = refl
one_fault bytes TooLong TooLong f g p q = refl
one_fault bytes (BadChar m) (BadChar n) f g p q = ap BadChar (same_place m n (stops_once bytes m n f.2 g.2) (stops_once bytes n m g.2 f.2))
one_fault bytes (TooManyDigits m) (TooManyDigits n) f g p q = ap TooManyDigits (same_place m n (row_once bytes m n f.2 g.3) (row_once bytes n m g.2 f.3))
one_fault bytes (BadChar m) (TooManyDigits n) f g p q = absurd (no_row bytes m n f.2 f.3 g.2 g.4)
one_fault bytes (TooManyDigits m) (BadChar n) f g p q = absurd (no_row bytes n m g.2 g.3 f.2 f.4)
one_fault bytes Empty TooLong f g p q = absurd (omega (arith, f, g))
one_fault bytes Empty (BadChar n) f g p q = absurd (omega (arith, f, g.0))
one_fault bytes Empty (TooManyDigits n) f g p q = absurd (omega (arith, f, g.0))
one_fault bytes TooLong Empty f g p q = absurd (omega (arith, f, g))
one_fault bytes TooLong (BadChar n) f g p q = absurd (omega (arith, f, g.1))
one_fault bytes TooLong (TooManyDigits n) f g p q = absurd (omega (arith, f, g.1))
one_fault bytes (BadChar m) Empty f g p q = absurd (omega (arith, g, f.0))
one_fault bytes (BadChar m) TooLong f g p q = absurd (omega (arith, g, f.1))
one_fault bytes (TooManyDigits m) Empty f g p q = absurd (omega (arith, g, f.0))
one_fault bytes (TooManyDigits m) TooLong f g p q = absurd (omega (arith, g, f.1))
