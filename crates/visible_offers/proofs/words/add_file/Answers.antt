use Rattle.config_vars.proofs.Stacking.{told}
use Rattle.visible_offers.proofs.Counting.{next_counted}
use Rattle.visible_offers.proofs.words.add_file.Goals as goal

pub loop-assignment-preserved : goal.loop-assignment-preserved
loop-assignment-preserved c = next_counted (told c.args.variables.now) c.loop-assignment.rest.now c.in-Some.assignment.now c.in-Some.behind.now _ _ _ c.in-Some.ensures.cases.0 c.in_ok-add_counted.ensures c.loop-assignment.invariant
