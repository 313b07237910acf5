use Rattle.config_vars.proofs.Judging.{begin, fine_step}
use Rattle.config_vars.proofs.Stacking.{told}
use Rattle.config_vars.proofs.verdict.bad_line.Goals as goal

pub loop-assignment-init : goal.loop-assignment-init
loop-assignment-init c = begin (told c.args.variables.now) c.args.assigned.now

pub loop-assignment-preserved : goal.loop-assignment-preserved
loop-assignment-preserved c =
    fine_step (told c.args.variables.now) c.args.assigned.now c.loop-assignment.rest.now c.in-Some.assignment.now c.in-Some.behind.now c.in_ok-bad.bad c.in-Some.ensures.cases.0 c.if-bad.false c.in_ok-bad.ensures c.loop-assignment.invariant
