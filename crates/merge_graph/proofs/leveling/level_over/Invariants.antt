use Rattle.merge_graph.proofs.Leveled.{IsHighest}
use Rattle.std.proofs.Common.{take}
use Rattle.merge_graph.proofs.leveling.level_over.Given as goal

abbrev pub invariant-loop-place : goal.invariant-loop-place
invariant-loop-place l = IsHighest l.edges l.numbers l.levels (take l.place-index l.places) l.level
