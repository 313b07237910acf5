use Rattle.std.proofs.Common.{◌≡◌, ◌-◌, length}
use Rattle.std.specs.List.{find}
use Rattle.choice_law.specs.Tree.{conflict}
use Rattle.choice_tree.specs.Open.{is_open_of}
use Rattle.choice_tree.specs.Places.{numbers}
use Rattle.choice_tree.specs.Seen.{places_of}
use Rattle.choice_walk.proofs.taking_up.first_conflict.Given as goal

abbrev pub invariant-loop-other : goal.invariant-loop-other
invariant-loop-other l =
    find (λ m. is_open_of (places_of l.around.places.now) (conflict l.line m)) (numbers (length l.around.places.now - l.other) l.other) ≡ find (λ m. is_open_of (places_of l.around.places.now) (conflict l.line m)) (numbers (length l.around.places.now) 0)
