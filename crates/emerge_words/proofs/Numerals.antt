-- A text of digits is read as the number that it writes.
use Rattle.std.proofs.Common.{◌≡◌, ◌&&◌, ℕ, true, refl, arith, List, length, Result, Ok}
use Rattle.std.specs.Prelude.{nat_le, nat_lt}
use Rattle.std.specs.Cmp.Derive.{both_true}
use Rattle.std.specs.List.{list_all}
use Rattle.std.specs.Str.Parse.{ParsesUnsigned, digits_value}
use Rattle.std.proofs.lemmas.Bool.{leb-true, le-leb}
use Rattle.std.proofs.lemmas.Str.Parse.{IsDigitsTest, IsNumeralModel, digits_value_short, numerals_by_value, parse_gives}
use Rattle.clap.proofs.WalkLemmas.{both}
use Rattle.basics.specs.Bytes.{is_digit}
use Rattle.emerge_words.specs.Numbers.{is_numeral}

tells_digits : IsDigitsTest (λ ds. list_all is_digit ds ≡ true)
tells_digits = record {
  empty = refl;
  parts = λ c cs e. let k = both (is_digit c) (list_all is_digit cs) e in let m = both (nat_le 48 c) (nat_le c 57) k.0 in ((leb-true 48 c m.0, leb-true c 57 m.1), k.1);
  more = λ c cs k e. both_true (both_true (le-leb 48 c k.0) (le-leb c 57 k.1)) e;
}

digits : IsNumeralModel (λ ds. list_all is_digit ds ≡ true) (digits_value 10)
digits = numerals_by_value (λ ds. list_all is_digit ds ≡ true) tells_digits

pub numeral_read : {E : Type 0} (text : List ℕ) (r : Result ℕ E) → is_numeral text ≡ true → ParsesUnsigned 64 10 text r → r ≡ Ok (digits_value 10 text)
numeral_read text r is parses =
    let a = both (nat_lt 0 (length text)) (nat_le (length text) 10 && list_all is_digit text) is in
    let b = both (nat_le (length text) 10) (list_all is_digit text) a.1 in
    parse_gives digits 64 text r parses b.1 (leb-true 1 (length text) a.0)
    (omega (arith, digits_value_short digits text 10 b.1 (leb-true (length text) 10 b.0)))
