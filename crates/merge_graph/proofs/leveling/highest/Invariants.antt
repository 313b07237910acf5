use Rattle.std.proofs.Common.{take}
use Rattle.merge_graph.proofs.Gapless.{IsGreatest}
use Rattle.merge_graph.proofs.leveling.highest.Given as goal

abbrev pub invariant-loop-level : goal.invariant-loop-level
invariant-loop-level l = IsGreatest (take l.level-index l.levels) l.highest
