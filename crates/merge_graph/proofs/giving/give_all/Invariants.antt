use Rattle.std.specs.Option.{is_none}
use Rattle.merge_graph.proofs.Counted.{passing}
use Rattle.merge_graph.proofs.Greedy.{AreGiven}
use Rattle.merge_graph.proofs.giving.give_all.Given as goal

abbrev pub invariant-loop-first : goal.invariant-loop-first
invariant-loop-first l = AreGiven l.nodes l.edges l.given.items l.firsts.items

abbrev pub decreases-loop-first : goal.decreases-loop-first
decreases-loop-first l = passing is_none l.given.items
