use Rattle.std.proofs.Common.{take}
use Rattle.plan_lives.specs.Index.{AreKeyed, name_key}
use Rattle.plan_lives.specs.Lives.{lives_of}
use Rattle.plan_lives.proofs.indexing.by_name.Given as goal

abbrev pub invariant-loop-life : goal.invariant-loop-life
invariant-loop-life l = AreKeyed name_key (lives_of (take l.life-index l.lives)) l.found.lists
