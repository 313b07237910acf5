use Rattle.std.proofs.Common.{◌≡◌, ℕ, List, Some, cond, take, bytes_eq}
use Rattle.std.specs.List.{list_any}
use Rattle.plan_law.specs.Plans.{removed_line}
use Rattle.plan_lives.specs.Clearings.{place_at}
use Rattle.plan_lives.proofs.lives.note_removals.Given as goal

abbrev pub invariant-loop-removal : goal.invariant-loop-removal
invariant-loop-removal l = (line : List ℕ) → place_at l.places.entries line ≡ cond (list_any (λ r. bytes_eq (removed_line r) line) (take l.removal-index l.removals)) (Some l.g) (place_at l.fn.places.entries line)
