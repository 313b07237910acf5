use Rattle.std.proofs.Common.{◌≡◌, map, take, true}
use Rattle.std.specs.List.{list_all}
use Rattle.merge_graph.specs.Closure.{lets_come}
use Rattle.merge_graph.proofs.giving.may_come.Given as goal

abbrev pub invariant-loop-edge : goal.invariant-loop-edge
invariant-loop-edge l = list_all (lets_come (map (λ r. r.items) l.rows) l.given l.node) (take l.edge-index l.edges) ≡ true
