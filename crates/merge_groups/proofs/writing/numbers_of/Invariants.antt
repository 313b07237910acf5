use Rattle.std.proofs.Common.{◌≡◌, ◌+◌, map, take}
use Rattle.merge_groups.proofs.writing.numbers_of.Given as goal

abbrev pub invariant-loop-place : goal.invariant-loop-place
invariant-loop-place l = l.numbers.items ≡ map (λ h. h + 1) (take l.place-index l.places)
