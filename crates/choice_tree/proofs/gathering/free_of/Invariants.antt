use Rattle.std.proofs.Common.{◌≡◌, ◌++◌, drop, true}
use Rattle.std.specs.List.{flat_map}
use Rattle.choice_tree.specs.Candidates.{free_line}
use Rattle.choice_tree.specs.Seen.{places_of}
use Rattle.choice_tree.specs.Shown.{candidates_of}
use Rattle.choice_tree.proofs.gathering.free_of.Given as goal

abbrev pub invariant-loop-line : goal.invariant-loop-line
invariant-loop-line l = candidates_of l.out.items ++ flat_map (λ k. free_line true (places_of l.places) k) (drop l.line-index l.lines) ≡ flat_map (λ k. free_line true (places_of l.places) k) l.lines
