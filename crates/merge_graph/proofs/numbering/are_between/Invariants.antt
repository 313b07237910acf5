use Rattle.std.proofs.Common.{◌≡◌, take, true}
use Rattle.std.specs.List.{list_all}
use Rattle.merge_graph.specs.Edges.{is_between}
use Rattle.merge_graph.proofs.numbering.are_between.Given as goal

abbrev pub invariant-loop-edge : goal.invariant-loop-edge
invariant-loop-edge l = list_all (is_between l.nodes) (take l.edge-index l.edges) ≡ true
