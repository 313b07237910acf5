use Rattle.vdb_contents.proofs.Progress.{added}
use Rattle.vdb_contents.proofs.reading.Reading.add.Goals as goal

pub returns-in-Some-Owned : goal.returns-in-Some-Owned
returns-in-Some-Owned c =
    added c.args.line.now c.in-Some-Owned.owned _ _ _ _ c.add_owned.result (rw (c.in-Some-Owned.is, c.in-Some-Owned.field-0-is) at c.in_ok-owned.ensures) c.add_owned.ensures
