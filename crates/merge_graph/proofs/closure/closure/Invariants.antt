use Rattle.std.proofs.Common.{map, take}
use Rattle.merge_graph.specs.Closure.{IsClosure}
use Rattle.merge_graph.proofs.closure.closure.Given as goal

abbrev pub invariant-loop-edge : goal.invariant-loop-edge
invariant-loop-edge l = IsClosure l.nodes (take l.edge-index l.edges) (map (λ r. r.items) l.rows.items)
