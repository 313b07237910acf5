use Rattle.std.proofs.Common.{◌∙◌, sym}
use Rattle.plan_text.proofs.Readers.{no_addition_cut, no_addition_flags, no_addition_id, no_addition_slots}
use Rattle.plan_text.proofs.words.read_addition.Goals as goal

pub returns-in_default-split_at_colon : goal.returns-in_default-split_at_colon
returns-in_default-split_at_colon c = λ a is e. no_addition_cut c.in-Some.word.now _ c.in_default-split_at_colon.ensures a is (sym c.in-Some.ensures ∙ e)

pub returns-in_default-2 : goal.returns-in_default-2
returns-in_default-2 c = λ a is e.
    no_addition_id c.in-Some.word.now c.in-Some-split_at_colon.id.now c.in-Some-split_at_colon.slots.now _ c.in-Some-split_at_colon.ensures (rw c.in_default-2.is at c.in_ok-id.ensures) a is (sym c.in-Some.ensures ∙ e)

pub returns-in_default-3 : goal.returns-in_default-3
returns-in_default-3 c = λ a is e.
    no_addition_slots c.in-Some.word.now c.in-Some-split_at_colon.id.now c.in-Some-split_at_colon.slots.now _ c.in-Some-split_at_colon.ensures (rw c.in_default-3.is at c.in_ok-slot.ensures) a is (sym c.in-Some.ensures ∙ e)

pub returns-in_default-4 : goal.returns-in_default-4
returns-in_default-4 c = λ a is e. no_addition_flags c.in-Some.word.now _ (rw c.in_default-4.is at c.in_ok-flags.ensures) a is (sym c.in-Some.ensures ∙ e)
