use Rattle.std.proofs.Common.{◌≡◌, take}
use Rattle.config_vars.specs.Values.{since_clear, words_said}
use Rattle.config_vars.proofs.Stacking.{told}
use Rattle.config_vars.proofs.stack.stacked.Given as goal

abbrev pub invariant-loop-file : goal.invariant-loop-file
invariant-loop-file l = told l.since.items ≡ since_clear (words_said l.key (take l.file-index l.files))
