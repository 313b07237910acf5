use Rattle.std.proofs.Common.{◌≡◌, ◌-◌, length}
use Rattle.std.specs.List.{find}
use Rattle.choice_law.specs.Tree.{absence}
use Rattle.choice_tree.specs.Open.{is_open_of}
use Rattle.choice_tree.specs.Places.{numbers}
use Rattle.choice_tree.specs.Seen.{places_of}
use Rattle.choice_walk.proofs.taking_up.first_forsaken.Given as goal

abbrev pub invariant-loop-line : goal.invariant-loop-line
invariant-loop-line l =
    find (λ m. is_open_of (places_of l.places) (absence m)) (numbers (length l.places - l.line) l.line) ≡ find (λ m. is_open_of (places_of l.places) (absence m)) (numbers (length l.places) 0)
