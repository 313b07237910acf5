use Rattle.std.specs.Prelude.{Some}
use Rattle.pms_slot.proofs.Parted.{writes_parts}
use Rattle.pms_slot.proofs.value.read_both.Goals as goal

pub returns-in_default : goal.returns-in_default
returns-in_default c = λ a v is. (rw c.in_default.is at c.in_ok-slot.ensures) (writes_parts c.args.slot.now a (Some c.args.subslot.now) v c.requires is).0

pub returns-in_default-2 : goal.returns-in_default-2
returns-in_default-2 c = λ a v is. (rw c.in_default-2.is at c.in_ok-subslot.ensures) (writes_parts c.args.slot.now a (Some c.args.subslot.now) v c.requires is).1
