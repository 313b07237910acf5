use Rattle.std.proofs.Common.{take}
use Rattle.merge_graph.specs.Certified.{AllFall}
use Rattle.merge_graph.proofs.checks.all_fall.Given as goal

abbrev pub invariant-loop-edge : goal.invariant-loop-edge
invariant-loop-edge l = AllFall l.numbers (take l.edge-index l.edges)
