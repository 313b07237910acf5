-- Names are ASCII.
use Rattle.std.proofs.Common.{◌≡◌, ℕ, ◌<◌, true, List, length, get_or, inl, inr, arith}
use Rattle.std.specs.Str.{IsAscii}
use Rattle.std.proofs.lemmas.Bool.{cases_lt}
use Rattle.std.proofs.lemmas.Bool.Decides.{nat_tests}
use Rattle.std.proofs.lemmas.List.{get_or_past}
use Rattle.pms_names.specs.declared.kind.Kind.{Kind}
use Rattle.pms_names.specs.declared.kind.Kind.TheVariants.{Category, Package, Slot, Flag}
use Rattle.pms_names.specs.Bytes.{is_name_byte, may_contain}
use Rattle.pms_names.specs.Names.{AreNameBytes}

is_name_byte-ascii : (b : ℕ) → is_name_byte b ≡ true → b < 128
is_name_byte-ascii b h = grind (arith, nat_tests)

may_contain-ascii : (kind : Kind) (b : ℕ) → may_contain kind b ≡ true → b < 128
may_contain-ascii Category b h = grind (arith, nat_tests)
may_contain-ascii Package b h = grind (arith, nat_tests)
may_contain-ascii Slot b h = grind (arith, nat_tests)
may_contain-ascii Flag b h = grind (arith, nat_tests)

pub IsAscii-from_name_bytes : (kind : Kind) (bytes : List ℕ) → AreNameBytes kind bytes → IsAscii bytes
IsAscii-from_name_bytes kind bytes h i = elim (cases_lt i (length bytes)) [
  | inl within ↦ may_contain-ascii kind (get_or bytes i 0) (h i within)
  | inr past ↦ omega (arith, get_or_past bytes i 0 past)
]
