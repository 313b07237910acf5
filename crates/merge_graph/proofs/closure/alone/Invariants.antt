use Rattle.std.proofs.Common.{◌==◌}
use Rattle.merge_graph.specs.Closure.{IsRow}
use Rattle.merge_graph.proofs.closure.alone.Given as goal

abbrev pub invariant-loop-other : goal.invariant-loop-other
invariant-loop-other l = IsRow l.other (λ y. l.node == y) l.row.items
