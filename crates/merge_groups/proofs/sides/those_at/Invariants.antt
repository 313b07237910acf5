use Rattle.std.proofs.Common.{◌≡◌, ◌++◌, drop, map}
use Rattle.merge_edges.specs.Views.{change_of}
use Rattle.merge_groups.specs.Grouped.{those_at}
use Rattle.merge_groups.proofs.sides.those_at.Given as goal

abbrev pub invariant-loop-place : goal.invariant-loop-place
invariant-loop-place l =
    map (λ p. p.now) l.out.items ++ those_at l.side (map change_of l.changes) (drop l.place-index l.places)
    ≡ those_at l.side (map change_of l.changes) l.places
