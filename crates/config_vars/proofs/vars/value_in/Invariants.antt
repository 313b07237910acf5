use Rattle.std.proofs.Common.{◌≡◌, take}
use Rattle.config_vars.specs.Values.{value_in}
use Rattle.config_vars.proofs.Stacking.{held}
use Rattle.config_vars.proofs.vars.value_in.Given as goal

abbrev pub invariant-loop-assignment : goal.invariant-loop-assignment
invariant-loop-assignment l = held l.value ≡ value_in l.key (take l.assignment-index l.assigned)
