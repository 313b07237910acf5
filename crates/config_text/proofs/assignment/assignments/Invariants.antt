use Rattle.std.proofs.Common.{◌++◌, length}
use Rattle.config_text.specs.Known.{Knows}
use Rattle.config_text.specs.Reading.{SoFar}
use Rattle.config_text.proofs.assignment.assignments.Given as goal

abbrev pub invariant-loop-rest : goal.invariant-loop-rest
invariant-loop-rest l = SoFar l.before l.bytes l.rest l.found.items l.line × Knows l.known.values (l.before ++ l.found.items)

abbrev pub decreases-loop-rest : goal.decreases-loop-rest
decreases-loop-rest l = length l.rest
