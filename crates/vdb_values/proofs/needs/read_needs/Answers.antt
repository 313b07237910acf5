use Rattle.vdb_values.proofs.Bound.{none_but_memory}
use Rattle.vdb_values.proofs.needs.read_needs.Goals as goal

pub returns-in-Ok-clause-fault : goal.returns-in-Ok-clause-fault
returns-in-Ok-clause-fault c = none_but_memory _ c.args.text.now c.bound.result c.bound.ensures
