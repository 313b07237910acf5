use Rattle.std.proofs.Common.{◌≡◌, filter, take}
use Rattle.config_vars.specs.Values.{is_expanded}
use Rattle.config_vars.proofs.Stacking.{told}
use Rattle.config_vars.proofs.stack.without_use.Given as goal

abbrev pub invariant-loop-variable : goal.invariant-loop-variable
invariant-loop-variable l = told l.kept.items ≡ filter is_expanded (told (take l.variable-index l.named))
