use Rattle.std.proofs.Common.{◌≡◌, ◌++◌, ◌-◌, length}
use Rattle.std.specs.List.{flat_map}
use Rattle.choice_tree.specs.Places.{numbers}
use Rattle.choice_tree.specs.Seen.{places_of}
use Rattle.merge_edges.specs.Found.{all_edges, line_edges}
use Rattle.merge_edges.proofs.joining.all_edges.Given as goal

abbrev pub invariant-loop-line : goal.invariant-loop-line
invariant-loop-line l = l.out.items ++ flat_map (line_edges (places_of l.before.places.now) (places_of l.after.places.now)) (numbers (length (places_of l.after.places.now) - l.line) l.line) ≡ all_edges (places_of l.before.places.now) (places_of l.after.places.now)
