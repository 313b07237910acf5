use Rattle.std.proofs.Common.{◌≡◌, take}
use Rattle.config_vars.specs.Values.{last_value}
use Rattle.config_vars.proofs.Stacking.{held}
use Rattle.config_vars.proofs.vars.last_value.Given as goal

abbrev pub invariant-loop-file : goal.invariant-loop-file
invariant-loop-file l = held l.value ≡ last_value l.key (take l.file-index l.files)
