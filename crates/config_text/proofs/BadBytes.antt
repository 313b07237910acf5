-- A text that isn't UTF-8.
use Rattle.std.proofs.Common.{ℕ, List, length, subst, sym}
use Rattle.std.specs.Str.{IsUtf8}
use Rattle.std.proofs.Math.Seq.{take-length}
use Rattle.config_text.specs.Faults.{NotUtf8At}

-- a text in UTF-8 has no bad byte
pub no_bad_byte : (bytes : List ℕ) (line : ℕ) → IsUtf8 bytes → NotUtf8At bytes line → ⊥
no_bad_byte bytes line good at =
    at.front.longest (length bytes) at.front.short (subst IsUtf8 (sym (take-length bytes)) good)
