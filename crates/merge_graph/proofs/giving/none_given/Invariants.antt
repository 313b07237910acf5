use Rattle.std.proofs.Common.{◌≡◌, None, replicate}
use Rattle.merge_graph.proofs.giving.none_given.Given as goal

abbrev pub invariant-loop : goal.invariant-loop
invariant-loop l = l.given.items ≡ replicate l.counter None
