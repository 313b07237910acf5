use Rattle.std.specs.Prelude.{None}
use Rattle.pms_slot.proofs.Parted.{writes_parts}
use Rattle.pms_slot.proofs.value.read_alone.Goals as goal

pub returns-in_default : goal.returns-in_default
returns-in_default c = λ a v is. (rw c.in_default.is at c.in_ok-slot.ensures) (writes_parts c.args.slot.now a None v c.requires is).0
