-- A value that breaks no character while it is read.
use Rattle.std.proofs.Common.{◌≡◌, ◌∙◌, ◌<◌, ◌+◌, ℕ, true, false, List, [], ◌∷◌, ◌++◌, length, get_or, ap, append-nil, append_assoc, arith, subst, sym}
use Rattle.std.specs.List.{AllByRecursion}
use Rattle.std.specs.Str.{IsUtf8, IsAscii}
use Rattle.std.proofs.lemmas.Bool.Decides.{nat_tests}
use Rattle.std.proofs.lemmas.Str.{IsUtf8-append, IsUtf8-drop, IsUtf8-from_ascii, IsUtf8-nil, IsUtf8-take, IsCharBoundary-after_ascii, IsCharBoundary-before_ascii}
use Rattle.std.proofs.lemmas.Str.Ascii.{IsAscii-cons, IsAscii-nil}
use Rattle.std.proofs.Math.Seq.{take-append_seam, drop-append-add, get_or-append_seam}
use Rattle.std.proofs.lemmas.List.{length-append}
use Rattle.config_text.specs.Assignments.{is_solid}
use Rattle.config_text.specs.Follow.{Stops}
use Rattle.config_text.specs.Reading.{IsWhole}
use Rattle.config_text.specs.Values.{IsKey, is_key_byte}
use Rattle.config_text.proofs.OneValue.{key_bytes}

-- a text is cut at an ASCII byte
pub cut_at_ascii : (xs ys : List ℕ) (a : ℕ) → a < 128 → IsUtf8 (xs ++ (a ∷ ys)) → IsUtf8 xs × IsUtf8 ys
cut_at_ascii xs ys a low good =
    let bs : List ℕ = xs ++ (a ∷ ys) in
    let here : get_or (xs ++ (a ∷ ys)) (length xs) 0 ≡ a = get_or-append_seam xs a ys 0 in
    let within : length xs < length (xs ++ (a ∷ ys)) = omega (arith, length-append xs (a ∷ ys)) in
    let low_here : get_or (xs ++ (a ∷ ys)) (length xs) 0 < 128 = subst (λ n. n < 128) (sym here) low in (
      subst IsUtf8 (take-append_seam xs (a ∷ ys)) (IsUtf8-take (xs ++ (a ∷ ys)) (length xs) good (IsCharBoundary-before_ascii (xs ++ (a ∷ ys)) (length xs) within low_here)),
      subst IsUtf8 (drop-append-add xs (a ∷ ys) 1) (IsUtf8-drop (xs ++ (a ∷ ys)) (length xs + 1) good (IsCharBoundary-after_ascii (xs ++ (a ∷ ys)) (length xs) good within low_here)),
    )

pub ascii_first : (a : ℕ) (ys : List ℕ) → a < 128 → IsUtf8 ys → IsUtf8 (a ∷ ys)
ascii_first a ys low good = IsUtf8-append (a ∷ []) ys (IsUtf8-from_ascii (a ∷ []) (IsAscii-cons a [] low IsAscii-nil)) good

pub ascii_one : (a : ℕ) → a < 128 → IsUtf8 (a ∷ [])
ascii_one a low = IsUtf8-from_ascii (a ∷ []) (IsAscii-cons a [] low IsAscii-nil)

-- the value and what is left are texts of their own
pub record IsClean (value rest : List ℕ) : Type 0 where
  pub value_good : IsUtf8 value
  pub rest_good : IsUtf8 rest

pub skip : (value rest : List ℕ) (a : ℕ) → a < 128 → IsWhole value (a ∷ rest) → IsClean value rest
skip value rest a low w =
    let both : IsUtf8 w.begun × IsUtf8 rest = cut_at_ascii w.begun rest a low w.open_end in
    record { value_good = subst IsUtf8 (sym w.both) (IsUtf8-append w.done w.begun w.good both.0); rest_good = both.1 }

pub clean_skip : (value rest : List ℕ) (a : ℕ) → a < 128 → IsClean value (a ∷ rest) → IsClean value rest
clean_skip value rest a low c = record { value_good = c.value_good; rest_good = (cut_at_ascii [] rest a low c.rest_good).1 }

pub clean_put : (value rest given : List ℕ) → IsUtf8 given → IsClean value rest → IsClean (value ++ given) rest
clean_put value rest given good c = record { value_good = IsUtf8-append value given c.value_good good; rest_good = c.rest_good }

pub clean_whole : (value rest : List ℕ) → IsClean value rest → IsWhole value rest
clean_whole value rest c = record { done = value; begun = []; both = sym (append-nil value); good = c.value_good; open_end = c.rest_good }

pub key_is_ascii : (b : ℕ) → is_key_byte b ≡ true → b < 128
key_is_ascii b h = grind (arith, nat_tests)

clean_bytes : (key value rest : List ℕ) → AllByRecursion (λ c. is_key_byte c ≡ true) key → IsClean value (key ++ rest) → IsClean value rest
clean_bytes [] value rest each c = c
clean_bytes (b ∷ key) value rest each c = clean_bytes key value rest each.1 (clean_skip value (key ++ rest) b (key_is_ascii b each.0) c)

pub clean_key : (key value rest : List ℕ) → IsKey key → IsClean value (key ++ rest) → IsClean value rest
clean_key key value rest k c = clean_bytes key value rest (key_bytes key k) c

bytes_are_ascii : (key : List ℕ) → AllByRecursion (λ c. is_key_byte c ≡ true) key → IsAscii key
bytes_are_ascii [] each = IsAscii-nil
bytes_are_ascii (b ∷ key) each = IsAscii-cons b key (key_is_ascii b each.0) (bytes_are_ascii key each.1)

pub key_is_text : (key : List ℕ) → IsKey key → IsUtf8 key
key_is_text key k = IsUtf8-from_ascii key (bytes_are_ascii key (key_bytes key k))

pub whole_stretch : (value rest more : List ℕ) → IsWhole value (more ++ rest) → IsWhole (value ++ more) rest
whole_stretch value rest more w =
    record {
      done = w.done;
      begun = w.begun ++ more;
      both = ap (λ l. l ++ more) w.both ∙ append_assoc w.done w.begun more;
      good = w.good;
      open_end = subst IsUtf8 (sym (append_assoc w.begun more rest)) w.open_end;
    }

white_is_ascii : (b : ℕ) → is_solid b ≡ false → b < 128
white_is_ascii b h = grind (arith, nat_tests)

-- a value that ends is a text, and so is what is behind it
pub whole_end : (value rest : List ℕ) → Stops is_solid rest → IsWhole value rest → IsUtf8 value × IsUtf8 rest
whole_end value [] stops w =
    (subst IsUtf8 (sym w.both) (IsUtf8-append w.done w.begun w.good (subst IsUtf8 (append-nil w.begun) w.open_end)), IsUtf8-nil)
whole_end value (b ∷ rest) stops w =
    let low : b < 128 = white_is_ascii b stops in
    let c : IsClean value rest = skip value rest b low w in
    (c.value_good, ascii_first b rest low c.rest_good)

pub whole_start : (text : List ℕ) → IsUtf8 text → IsWhole [] text
whole_start text good = clean_whole [] text (record { value_good = IsUtf8-nil; rest_good = good })
