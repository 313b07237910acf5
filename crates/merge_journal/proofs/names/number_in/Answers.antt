use Rattle.std.proofs.Common.{◌∙◌, ℕ, ap, Some}
use Rattle.byteorder.specs.Endian.{big_number}
use Rattle.merge_journal.proofs.Naming.{digits_decoded, number_read}
use Rattle.merge_journal.proofs.names.number_in.Goals as goal

pub returns-in-Ok : goal.returns-in-Ok
returns-in-Ok c n lt e =
    let v = c.decode_to_slice.ensures.value in
    let w = rw (digits_decoded n c.args.text.now e) at v in
    ap (λ (k : ℕ). Some k) (c.read_u32.ensures ∙ (ap (big_number 4) w.1 ∙ number_read n lt))

pub returns-in-Err : goal.returns-in-Err
returns-in-Err c n lt e =
    let v = c.decode_to_slice.ensures.value in
    let w = rw (digits_decoded n c.args.text.now e) at v in
    absurd (cc (w.0, c.in-Err.is))
