use Rattle.std.proofs.Common.{◌≡◌, drop}
use Rattle.std.specs.List.{find}
use Rattle.choice_law.specs.Tree.{tree}
use Rattle.choice_tree.specs.Open.{classes, is_open_of}
use Rattle.choice_tree.specs.Seen.{places_of}
use Rattle.choice_walk.proofs.taking_up.first_unmet.Given as goal

abbrev pub invariant-loop-class : goal.invariant-loop-class
invariant-loop-class l =
    find (λ class. is_open_of (places_of l.around.places.now) (tree l.line class)) (drop l.class-index l.class-items) ≡ find (λ class. is_open_of (places_of l.around.places.now) (tree l.line class)) classes
