use Rattle.std.proofs.Common.{◌≡◌, ◌++◌, drop}
use Rattle.std.specs.List.{flat_map}
use Rattle.merge_edges.specs.Found.{joined}
use Rattle.merge_edges.proofs.nodes.join_all.Given as goal

abbrev pub invariant-loop-edge : goal.invariant-loop-edge
invariant-loop-edge l = l.out.items ++ flat_map (joined l.nodes) (drop l.edge-index l.edges) ≡ flat_map (joined l.nodes) l.edges
