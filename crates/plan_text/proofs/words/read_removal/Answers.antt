use Rattle.plan_text.proofs.Readers.{no_removal_cut, no_removal_id, no_removal_slot}
use Rattle.plan_text.proofs.words.read_removal.Goals as goal

pub returns-in_default : goal.returns-in_default
returns-in_default c = no_removal_cut c.args.word.now c.in_default.ensures

pub returns-in_default-2 : goal.returns-in_default-2
returns-in_default-2 c = no_removal_id c.args.word.now c.in-Some.id.now c.in-Some.slot.now c.in-Some.ensures (rw c.in_default-2.is at c.in_ok-id.ensures)

pub returns-in_default-3 : goal.returns-in_default-3
returns-in_default-3 c = no_removal_slot c.args.word.now c.in-Some.id.now c.in-Some.slot.now c.in-Some.ensures (rw c.in_default-3.is at c.in_ok-slot.ensures)
