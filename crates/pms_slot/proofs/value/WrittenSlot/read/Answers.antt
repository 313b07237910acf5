use Rattle.pms_slot.proofs.Parted.{first_slash_cuts}
use Rattle.pms_slot.proofs.value.WrittenSlot.read.Goals as goal

pub returns-in-Some : goal.returns-in-Some
returns-in-Some c = rw (first_slash_cuts c.args.text.now c.in-Some.at c.in-Some.ensures) c.read_both.ensures
