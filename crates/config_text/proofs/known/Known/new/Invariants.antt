use Rattle.std.proofs.Common.{take}
use Rattle.config_text.specs.Known.{Knows}
use Rattle.config_text.proofs.known.Known.new.Given as goal

abbrev pub invariant-loop-assignment : goal.invariant-loop-assignment
invariant-loop-assignment l = Knows l.known.values (take l.assignment-index l.before)
