use Rattle.std.proofs.Common.{◌≡◌, ◌++◌, drop, map}
use Rattle.merge_edges.specs.Views.{change_of}
use Rattle.merge_groups.specs.Grouped.{named_at}
use Rattle.merge_groups.proofs.sides.named_at.Given as goal

abbrev pub invariant-loop-place : goal.invariant-loop-place
invariant-loop-place l =
    l.out.items ++ named_at (map change_of l.changes) (drop l.place-index l.places)
    ≡ named_at (map change_of l.changes) l.places
