use Rattle.std.proofs.Common.{take}
use Rattle.merge_graph.specs.Certified.{IsFirstInside}
use Rattle.merge_graph.proofs.cycle.first_inside.Given as goal

abbrev pub invariant-loop-edge : goal.invariant-loop-edge
invariant-loop-edge l = IsFirstInside l.numbers l.firsts (take l.edge-index l.edges) l.best
