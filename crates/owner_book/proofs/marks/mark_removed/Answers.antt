use Rattle.std.proofs.Common.{◌∙◌, refl, ap}
use Rattle.owner_book.specs.Marks.{removed_slot}
use Rattle.owner_book.proofs.Lists.{becomes}
use Rattle.owner_book.proofs.marks.mark_removed.Goals as goal

pub returns : goal.returns
returns c q =
    c.replace.ensures q
    ∙ becomes (removed_slot c.args.group) refl c.args.index.now c.args.path.now q c.removed_slot-slot.result (c.removed_slot-slot.ensures ∙ ap (removed_slot c.args.group) (rw (c.as_bytes.ensures.value, c.text.ensures.text) at c.get.ensures.slot))
