use Rattle.std.proofs.Common.{◌≡◌, drop}
use Rattle.std.specs.List.{list_any}
use Rattle.choice_tree.specs.Open.{opposes}
use Rattle.choice_tree.specs.Seen.{places_of}
use Rattle.choice_tree.proofs.places.any_opposes.Given as goal

abbrev pub invariant-loop-place : goal.invariant-loop-place
invariant-loop-place l = list_any (opposes l.other) (places_of (drop l.place-index l.places)) ≡ list_any (opposes l.other) (places_of l.places)
