use Rattle.std.proofs.Common.{◌≡◌, ◌-◌, map, take}
use Rattle.std.specs.Prelude.{slice_index}
use Rattle.merge_graph.proofs.leveling.row_numbers.Given as goal

abbrev pub invariant-loop-number : goal.invariant-loop-number
invariant-loop-number l = l.places.items ≡ map (λ k. slice_index l.levels k - 1) (take l.number-index l.numbers)
