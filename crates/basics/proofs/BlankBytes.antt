-- What is known of a byte that is a blank.
use Rattle.std.proofs.Common.{◌≡◌, ℕ, ◌<◌, true, arith}
use Rattle.std.proofs.lemmas.Bool.Decides.{nat_tests}
use Rattle.basics.specs.Blanks.{is_blank}

pub is_blank-small : (b : ℕ) → is_blank b ≡ true → b < 128
is_blank-small b h = grind (arith, nat_tests)
