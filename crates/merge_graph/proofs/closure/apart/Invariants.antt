use Rattle.std.proofs.Common.{◌==◌, map}
use Rattle.merge_graph.specs.Closure.{IsTable}
use Rattle.merge_graph.proofs.closure.apart.Given as goal

abbrev pub invariant-loop-node : goal.invariant-loop-node
invariant-loop-node l = IsTable l.node l.nodes (λ x y. x == y) (map (λ r. r.items) l.rows.items)
