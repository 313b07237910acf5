use Rattle.std.proofs.Common.{◌≡◌, ◌≤◌, ◌++◌, drop}
use Rattle.choice_tree.specs.Seen.{places_of}
use Rattle.merge_edges.specs.Found.{nodes_from}
use Rattle.merge_edges.proofs.nodes.nodes_of.Given as goal

abbrev pub invariant-loop-place : goal.invariant-loop-place
invariant-loop-place l = (l.nodes.items ++ nodes_from l.count (places_of (drop l.place-index l.places)) ≡ nodes_from 0 (places_of l.places)) × (l.count ≤ l.place-index)
