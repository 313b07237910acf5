use Rattle.std.proofs.Common.{◌∙◌, ap}
use Rattle.dep_atom.specs.declared.slot.SlotPart.TheVariants.{Given}
use Rattle.pms_slot.proofs.Parted.{writes_once}
use Rattle.dep_atom.proofs.Once.{slot_once}
use Rattle.dep_atom.proofs.reading.read_given.Goals as goal

pub returns-in-Ok-Some-clause-only : goal.returns-in-Ok-Some-clause-only
returns-in-Ok-Some-clause-only c =
    λ slot subslot equals named sub e.
    let once = slot_once c.args.text.now c.take_end-equals.result.0.now c.take_end-equals.result.1 slot subslot equals named sub c.take_end-equals.ensures.parts c.take_end-equals.ensures.none e in
    let same = writes_once c.take_end-equals.result.0.now c.in-Ok-Some.field-0-0.slot slot c.in-Ok-Some.field-0-0.subslot subslot (rw c.in-Ok-Some.field-0-is at c.in-Ok-Some.ensures) once.0 in
    ap (λ s. Given s c.in-Ok-Some.field-0-0.subslot c.take_end-equals.result.1) same.0 ∙ ap (λ s. Given slot s c.take_end-equals.result.1) same.1 ∙ ap (λ b. Given slot subslot b) once.1

pub returns-in-Ok-None-clause-only : goal.returns-in-Ok-None-clause-only
returns-in-Ok-None-clause-only c =
    λ slot subslot equals named sub e.
    let once = slot_once c.args.text.now c.take_end-equals.result.0.now c.take_end-equals.result.1 slot subslot equals named sub c.take_end-equals.ensures.parts c.take_end-equals.ensures.none e in
    absurd ((rw c.in-Ok-None.field-0-is at c.in-Ok-None.ensures) slot subslot once.0)
