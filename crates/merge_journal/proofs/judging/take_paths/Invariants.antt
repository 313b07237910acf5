use Rattle.merge_journal.proofs.Free.{Walk}
use Rattle.merge_journal.proofs.judging.take_paths.Given as goal

abbrev pub invariant-loop-path : goal.invariant-loop-path
invariant-loop-path l = Walk l.initial.taken l.taken l.paths l.path-index
