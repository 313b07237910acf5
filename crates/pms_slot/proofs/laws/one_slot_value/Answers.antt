use Rattle.pms_slot.proofs.Parted.{one_value, printed_says}
use Rattle.pms_slot.proofs.laws.one_slot_value.Goals as goal

pub returns-clause-one : goal.returns-clause-one
returns-clause-one c = one_value

pub returns-clause-printed : goal.returns-clause-printed
returns-clause-printed c = printed_says
