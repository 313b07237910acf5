use Rattle.std.proofs.Common.{List, ℕ, refl, subst, inr}
use Rattle.dep_group.specs.Words.{words_of}
use Rattle.vdb_law.specs.Fields.{AreSlots}
use Rattle.vdb_values.specs.Values.{SaysNoSlots}
use Rattle.vdb_record.specs.Texts.{value}
use Rattle.vdb_record.proofs.Encoded.{not_utf8, slots_utf8}
use Rattle.vdb_record.proofs.Files.{one_slots, slot_line}
use Rattle.vdb_record.proofs.values.slots_of.Goals as goal

pub returns-in_err-value-clause-only : goal.returns-in_err-value-clause-only
returns-in_err-value-clause-only c slot subslot are =
    absurd (not_utf8 (value c.args.text.now) c.in_err-value.ensures.fault.0 c.in_err-value.ensures.fault.2 (slots_utf8 (value c.args.text.now) slot subslot are))

pub returns-in-Some-clause-only : goal.returns-in-Some-clause-only
returns-in-Some-clause-only c slot subslot are =
    one_slots c.one_slot_value.ensures.one (words_of (value c.args.text.now)) c.in-Some.slots.slot c.in-Some.slots.subslot slot subslot
    (subst (λ (t : List ℕ). AreSlots (words_of t) c.in-Some.slots.slot c.in-Some.slots.subslot) c.in_ok-value.ensures.text (rw c.in-Some.is at c.in_ok-slots.ensures)) are

pub returns-in-None-clause-only : goal.returns-in-None-clause-only
returns-in-None-clause-only c slot subslot are =
    let none : SaysNoSlots (value c.args.text.now) = subst SaysNoSlots c.in_ok-value.ensures.text (rw c.in-None.is at c.in_ok-slots.ensures) in
    absurd (none slot subslot are)

pub returns-in-None-clause-fault : goal.returns-in-None-clause-fault
returns-in-None-clause-fault c =
    let none : SaysNoSlots (value c.args.text.now) = subst SaysNoSlots c.in_ok-value.ensures.text (rw c.in-None.is at c.in_ok-slots.ensures) in
    let line = slot_line (value c.args.text.now) c.in_ok-value.value.now c.as_bytes.result.now c.as_bytes-in-None.result.now c.value_start-start.result c.line_at-line.result
    c.in_ok-value.ensures.text c.as_bytes.ensures.value c.as_bytes-in-None.ensures.value c.value_start-start.ensures c.line_at-line.ensures in
    (refl, inr (c.in_ok-value.ensures.utf8, none, line))
