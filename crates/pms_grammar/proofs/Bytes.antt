-- What the tests of bytes say.
use Rattle.std.specs.Prelude.{true, false, ◌==◌}
use Rattle.std.proofs.Common.{◌≡◌, ℕ, ◌<◌, ◌≤◌, arith}
use Rattle.std.proofs.lemmas.Bool.Decides.{nat_tests}
use Rattle.basics.specs.Bytes.{is_digit, is_lower}

pub digit_range : (b : ℕ) → is_digit b ≡ true → (48 ≤ b) × (b ≤ 57)
digit_range b h = grind (arith, nat_tests)

pub lower_range : (b : ℕ) → is_lower b ≡ true → (97 ≤ b) × (b ≤ 122)
lower_range b h = grind (arith, nat_tests)

pub above_is_no_digit : (b : ℕ) → 57 < b → is_digit b ≡ false
above_is_no_digit b h = grind (arith, nat_tests)

pub below_is_no_digit : (b : ℕ) → b < 48 → is_digit b ≡ false
below_is_no_digit b h = grind (arith, nat_tests)

pub tests_apart : (b k : ℕ) → k < b → (b == k) ≡ false
tests_apart b k h = grind (arith, nat_tests)

pub tests_below : (b k : ℕ) → b < k → (b == k) ≡ false
tests_below b k h = grind (arith, nat_tests)

pub below_is_no_lower : (b : ℕ) → b < 97 → is_lower b ≡ false
below_is_no_lower b h = grind (arith, nat_tests)
