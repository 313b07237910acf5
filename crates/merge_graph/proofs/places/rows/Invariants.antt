use Rattle.std.proofs.Common.{take, map}
use Rattle.merge_graph.specs.Rows.{AreRows}
use Rattle.merge_graph.proofs.places.rows.Given as goal

abbrev pub invariant-loop-at : goal.invariant-loop-at
invariant-loop-at l = AreRows (take l.at l.numbers) l.count (map (λ r. r.items) l.rows.items)
