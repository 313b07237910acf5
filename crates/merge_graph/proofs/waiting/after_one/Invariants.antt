use Rattle.std.proofs.Common.{take}
use Rattle.merge_graph.proofs.Waited.{AreTargets}
use Rattle.merge_graph.proofs.waiting.after_one.Given as goal

abbrev pub invariant-loop-place : goal.invariant-loop-place
invariant-loop-place l = AreTargets l.edges l.numbers (take l.place-index l.places) l.number l.targets
