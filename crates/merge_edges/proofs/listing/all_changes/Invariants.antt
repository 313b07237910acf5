use Rattle.std.proofs.Common.{◌≡◌, ◌++◌, ◌-◌, length, map}
use Rattle.std.specs.List.{flat_map}
use Rattle.choice_tree.specs.Places.{numbers}
use Rattle.choice_tree.specs.Seen.{places_of}
use Rattle.merge_edges.specs.Found.{all_changes, change_at}
use Rattle.merge_edges.specs.Views.{change_of}
use Rattle.merge_edges.proofs.listing.all_changes.Given as goal

abbrev pub invariant-loop-line : goal.invariant-loop-line
invariant-loop-line l = map change_of l.out.items ++ flat_map (change_at (places_of l.places)) (numbers (length (places_of l.places) - l.line) l.line) ≡ all_changes (places_of l.places)
