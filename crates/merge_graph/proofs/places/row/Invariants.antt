use Rattle.std.proofs.Common.{◌≡◌, take}
use Rattle.merge_graph.specs.Rows.{places_of}
use Rattle.merge_graph.proofs.places.row.Given as goal

abbrev pub invariant-loop-at : goal.invariant-loop-at
invariant-loop-at l = l.row.items ≡ places_of (take l.at l.numbers) l.number
