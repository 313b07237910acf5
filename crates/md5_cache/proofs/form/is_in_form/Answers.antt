use Rattle.std.proofs.Common.{◌↔◌, subst, sym}
use Rattle.std.specs.Prelude.{IfOk, IsTrue}
use Rattle.md5_cache.specs.Fields.{IsFieldInForm}
use Rattle.md5_cache.specs.declared.field.Field.{Field}
use Rattle.md5_cache.proofs.form.is_in_form.Goals as goal

pub returns-in-Slot : goal.returns-in-Slot
returns-in-Slot c = subst (λ (f : Field). IfOk c.is_slot.result (λ b. IsTrue b ↔ IsFieldInForm f c.args.value.now)) (sym c.in-Slot.is) c.is_slot.ensures

pub returns-in-Required : goal.returns-in-Required
returns-in-Required c = subst (λ (f : Field). IfOk c.is_required.result (λ b. IsTrue b ↔ IsFieldInForm f c.args.value.now)) (sym c.in-Required.is) c.is_required.ensures

pub returns-in-Needs : goal.returns-in-Needs
returns-in-Needs c = subst (λ (f : Field). IfOk c.are_needs.result (λ b. IsTrue b ↔ IsFieldInForm f c.args.value.now)) (sym c.in-Needs.is) c.are_needs.ensures
