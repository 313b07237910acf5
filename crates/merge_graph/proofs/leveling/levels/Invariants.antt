use Rattle.merge_graph.proofs.Leveled.{AreSoFar}
use Rattle.merge_graph.proofs.leveling.levels.Given as goal

abbrev pub invariant-loop-number : goal.invariant-loop-number
invariant-loop-number l = AreSoFar l.edges l.numbers l.count l.number l.levels.items
