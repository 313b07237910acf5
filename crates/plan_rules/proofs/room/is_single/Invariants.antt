use Rattle.std.proofs.Common.{take}
use Rattle.basics.specs.Members.{Has}
use Rattle.plan_law.specs.Lives as law
use Rattle.plan_lives.specs.Index.{plan_of}
use Rattle.plan_lives.specs.Lives.{life_of, lives_of}
use Rattle.plan_rules.specs.Rules.{AreDouble}
use Rattle.plan_rules.proofs.room.is_single.Given as goal

abbrev pub invariant-loop-y : goal.invariant-loop-y
invariant-loop-y l = (z : law.Life) → Has (lives_of (take l.y-index l.y-items)) z → ¬ AreDouble (plan_of l.index) (life_of l.x) z
