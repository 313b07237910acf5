use Rattle.config_vars.proofs.Stacking.{next_value}
use Rattle.config_vars.proofs.vars.value_in.Goals as goal

pub loop-assignment-preserved : goal.loop-assignment-preserved
loop-assignment-preserved c =
    next_value c.args.key.now c.args.assigned.now c.loop-assignment.assignment-index c.assignment-item.result c.value_of.result c.loop-assignment.value _ c.loop-assignment-test.true c.assignment-item.is c.or-value.ensures c.value_of.ensures c.loop-assignment.invariant
