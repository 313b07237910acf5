-- A text that is shown has no control character.
use Rattle.std.proofs.Common.{◌≡◌, ◌<◌, ◌≤◌, ◌/◌, ◌%◌, ℕ, List, [], ◌∷◌, true, false, Bool, refl, arith, append-nil, rules}
use Rattle.std.proofs.lemmas.Str.{NoCharPasses-append, NoCharPasses-nil, encode_ascii}
use Rattle.std.specs.Prelude.{chars, encode_utf8, if◌then◌else◌}
use Rattle.std.specs.Char.{digit_char, is_control}
use Rattle.std.specs.List.{flat_map}
use Rattle.merge_report.specs.Shown.{IsPlain, escape, shown, shown_char}

-- a character from the space to the tilde is no control character
no_control : (c : ℕ) → 32 ≤ c → c < 127 → is_control c ≡ false
no_control c low high = grind arith

-- nor is the one that writes a digit below 16
digit_plain : (d : ℕ) → d < 16 → is_control (digit_char d) ≡ false
digit_plain d few = no_control (digit_char d) (grind arith) (grind arith)

control_below : (c : ℕ) → is_control c ≡ true → c < 160
control_below c is = grind arith

escape_plain : (c : ℕ) → is_control c ≡ true → IsPlain (escape c)
escape_plain c is =
    let high = digit_plain (c / 16) (omega (arith, control_below c is)) in
    let low = digit_plain (c % 16) (omega arith) in
    (escape c, search (rules, encode_ascii), (refl, (refl, (high, (low, tt)))))

other_plain : (c : ℕ) → is_control c ≡ false → IsPlain (encode_utf8 c)
other_plain c is = (c ∷ [], append-nil _, (is, tt))

by_kind : (c : ℕ) (b : Bool) → is_control c ≡ b → IsPlain (if b then escape c else encode_utf8 c)
by_kind c true is = escape_plain c is
by_kind c false is = other_plain c is

char_plain : (c : ℕ) → IsPlain (shown_char c)
char_plain c = by_kind c (is_control c) refl

all_plain : (cs : List ℕ) → IsPlain (flat_map shown_char cs)
all_plain [] = NoCharPasses-nil is_control
all_plain (c ∷ cs) = NoCharPasses-append is_control _ _ (char_plain c) (all_plain cs)

pub shown_plain : (text : List ℕ) → IsPlain (shown text)
shown_plain text = all_plain (chars text)
