use Rattle.recovery.proofs.Lists.{AreGathered}
use Rattle.recovery.proofs.finding.gates_among.Given as goal

abbrev pub invariant-loop-path : goal.invariant-loop-path
invariant-loop-path l = AreGathered l.paths l.path-index l.groups.items
