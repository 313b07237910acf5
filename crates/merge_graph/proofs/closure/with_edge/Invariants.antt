use Rattle.std.proofs.Common.{map}
use Rattle.merge_graph.specs.Closure.{IsTable, reached_with}
use Rattle.merge_graph.proofs.closure.with_edge.Given as goal

abbrev pub invariant-loop-node : goal.invariant-loop-node
invariant-loop-node l = IsTable l.node l.nodes (reached_with (map (λ r. r.items) l.rows) l.from l.to) (map (λ r. r.items) l.more.items)
