use Rattle.std.proofs.Common.{◌≡◌, map, take}
use Rattle.plan_lives.specs.Index.{line_key}
use Rattle.plan_lives.specs.Lives.{lives_of}
use Rattle.plan_lives.proofs.indexing.lines_of.Given as goal

abbrev pub invariant-loop-life : goal.invariant-loop-life
invariant-loop-life l = l.lines.items ≡ map line_key (lives_of (take l.life-index l.lives))
