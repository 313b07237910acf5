use Rattle.std.proofs.Common.{take}
use Rattle.plan_lives.specs.Index.{AreKeyed, line_key}
use Rattle.plan_lives.specs.Lives.{lives_of}
use Rattle.plan_lives.proofs.indexing.by_line.Given as goal

abbrev pub invariant-loop-place : goal.invariant-loop-place
invariant-loop-place l = AreKeyed line_key (lives_of (take l.place l.lives)) l.found.lists
