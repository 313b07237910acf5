use Rattle.std.proofs.Common.{◌∙◌, refl, ap}
use Rattle.owner_book.specs.Marks.{closed}
use Rattle.owner_book.proofs.Lists.{becomes}
use Rattle.owner_book.proofs.marks.close.Goals as goal

pub returns : goal.returns
returns c q =
    c.replace.ensures q
    ∙ becomes (closed c.args.settles) refl c.args.index.now c.args.path.now q c.closed-slot.result (c.closed-slot.ensures ∙ ap (closed c.args.settles) (rw (c.as_bytes.ensures.value, c.text.ensures.text) at c.get.ensures.slot))
