use Rattle.std.proofs.Common.{map}
use Rattle.merge_graph.proofs.GivenBelow.{IsGivenBelow}
use Rattle.merge_graph.proofs.giving.give.Given as goal

abbrev pub invariant-loop-node : goal.invariant-loop-node
invariant-loop-node l = IsGivenBelow (map (λ r. r.items) l.rows) l.first l.number l.node l.fn.given.items l.given.items
