use Rattle.vdb_values.proofs.Alone.{slots_alone}
use Rattle.vdb_values.proofs.single.read_slots.Goals as goal

pub returns-in-Some : goal.returns-in-Some
returns-in-Some c = slots_alone c.args.text.now c.in-Some.word.now c.as_bytes.result.now c.read.result (rw c.in-Some.is at c.in_ok-word.ensures) c.as_bytes.ensures.value c.read.ensures
