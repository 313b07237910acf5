use Rattle.std.proofs.Common.{take}
use Rattle.basics.specs.Members.{Has}
use Rattle.plan_law.specs.Lives as law
use Rattle.plan_lives.specs.Lives.{lives_of}
use Rattle.plan_rules.specs.Rules.{IsInTheWay}
use Rattle.plan_rules.proofs.room.is_vacant.Given as goal

abbrev pub invariant-loop-y : goal.invariant-loop-y
invariant-loop-y l = (z : law.Life) → Has (lives_of (take l.y-index l.y-items)) z → ¬ IsInTheWay l.g z
