use Rattle.std.proofs.Common.{map}
use Rattle.merge_graph.specs.After.{AreAfter}
use Rattle.merge_graph.proofs.waiting.after.Given as goal

abbrev pub invariant-loop-number : goal.invariant-loop-number
invariant-loop-number l = AreAfter l.edges l.numbers l.number (map (λ r. r.items) l.all.items)
