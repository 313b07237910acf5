use Rattle.std.proofs.Common.{◌≡◌, ◌<◌, ℕ, false, map}
use Rattle.merge_graph.specs.Closure.{may_come}
use Rattle.merge_graph.proofs.giving.next.Given as goal

abbrev pub invariant-loop-node : goal.invariant-loop-node
invariant-loop-node l = (y : ℕ) → y < l.node → may_come (map (λ r. r.items) l.rows) l.edges l.given y ≡ false
