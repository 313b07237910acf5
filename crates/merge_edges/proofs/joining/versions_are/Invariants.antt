use Rattle.std.proofs.Common.{take}
use Rattle.std.specs.List.{AllByRecursion}
use Rattle.choice_tree.specs.Seen.{places_of}
use Rattle.merge_edges.specs.Found.{HasVersion}
use Rattle.merge_edges.proofs.joining.versions_are.Given as goal

abbrev pub invariant-loop-place : goal.invariant-loop-place
invariant-loop-place l = AllByRecursion HasVersion (places_of (take l.place-index l.places))
