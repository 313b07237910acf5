use Rattle.merge_graph.proofs.Sweeping.{IsSwept}
use Rattle.merge_graph.proofs.sweep.are_first.Given as goal

abbrev pub invariant-loop-number : goal.invariant-loop-number
invariant-loop-number l = IsSwept l.firsts l.opened l.number l.ready
