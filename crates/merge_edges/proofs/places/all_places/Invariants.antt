use Rattle.std.proofs.Common.{◌≡◌, ◌++◌, ◌-◌, map}
use Rattle.choice_law.specs.Universe.{lines}
use Rattle.choice_tree.specs.Places.{numbers, place_at, places}
use Rattle.choice_tree.specs.Seen.{places_of}
use Rattle.choice_tree.specs.Views.{universe_of}
use Rattle.merge_edges.proofs.places.all_places.Given as goal

abbrev pub invariant-loop-line : goal.invariant-loop-line
invariant-loop-line l =
    let u = universe_of l.universe in
    places_of l.places.items ++ map (place_at u l.choice) (numbers (lines u - l.line) l.line) ≡ places u l.choice
