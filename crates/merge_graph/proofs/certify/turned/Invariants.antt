use Rattle.std.proofs.Common.{◌≡◌, map, take}
use Rattle.merge_graph.specs.Edges.{turned}
use Rattle.merge_graph.proofs.certify.turned.Given as goal

abbrev pub invariant-loop-edge : goal.invariant-loop-edge
invariant-loop-edge l = l.all.items ≡ map turned (take l.edge-index l.edges)
