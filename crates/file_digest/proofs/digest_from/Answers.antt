use Rattle.std.proofs.Common.{◌≡◌, ◌∙◌, ℕ, List, ap, sym}
use Rattle.hex.specs.Hex.{decode_sized, encode_lower}
use Rattle.hex.proofs.HexLemmas.{decode_sized-encode_lower}
use Rattle.file_digest.proofs.digest_from.Goals as goal

pub returns-in_default : goal.returns-in_default
returns-in_default c d is =
    let r = c.from_hex.ensures ∙ ap (λ (t : List ℕ). decode_sized t 16) is.spelled ∙ decode_sized-encode_lower d 16 is.form.long is.form.bytes in
    cc (r, c.in_default.is)

pub returns-else-is_hex_of : goal.returns-else-is_hex_of
returns-else-is_hex_of c d is =
    let r = c.from_hex.ensures ∙ ap (λ (t : List ℕ). decode_sized t 16) is.spelled ∙ decode_sized-encode_lower d 16 is.form.long is.form.bytes in
    let md5 : c.in-Ok.md5 ≡ d = cc (r, c.in-Ok.is) in
    cc (c.is_hex_of.ensures.1 (is.spelled ∙ ap encode_lower (sym md5)), c.if-is_hex_of.false)
