use Rattle.std.proofs.Common.{take}
use Rattle.basics.specs.Members.{Has}
use Rattle.plan_law.specs.Lives as law
use Rattle.plan_lives.specs.Index.{plan_of}
use Rattle.plan_lives.specs.Lives.{lives_of}
use Rattle.plan_check.specs.Kept.{IsKeptOut}
use Rattle.plan_check.proofs.blocked.name_is_clear.Given as goal

abbrev pub invariant-loop-y : goal.invariant-loop-y
invariant-loop-y l = (y : law.Life) → Has (lives_of (take l.y-index l.y-items)) y → ¬ IsKeptOut (plan_of l.index) l.keeping y
