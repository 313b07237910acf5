use Rattle.plan_text.proofs.Readers.{no_bind_cut, no_bind_slot, no_bind_subslot}
use Rattle.plan_text.proofs.words.read_bind.Goals as goal

pub returns-in_default : goal.returns-in_default
returns-in_default c = no_bind_cut c.args.word.now c.in_default.ensures

pub returns-in_default-2 : goal.returns-in_default-2
returns-in_default-2 c = no_bind_slot c.args.word.now c.in-Some.slot.now c.in-Some.subslot.now c.in-Some.ensures (rw c.in_default-2.is at c.in_ok-slot.ensures)

pub returns-in_default-3 : goal.returns-in_default-3
returns-in_default-3 c = no_bind_subslot c.args.word.now c.in-Some.slot.now c.in-Some.subslot.now c.in-Some.ensures (rw c.in_default-3.is at c.in_ok-subslot.ensures)
