use Rattle.std.proofs.Common.{length}
use Rattle.config_vars.proofs.Judging.{SoFar}
use Rattle.config_vars.proofs.Stacking.{told}
use Rattle.config_vars.proofs.verdict.bad_line.Given as goal

abbrev pub invariant-loop-assignment : goal.invariant-loop-assignment
invariant-loop-assignment l = SoFar (told l.variables) l.fn.assigned l.rest

abbrev pub decreases-loop-assignment : goal.decreases-loop-assignment
decreases-loop-assignment l = length l.rest
