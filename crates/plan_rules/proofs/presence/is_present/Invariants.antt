use Rattle.std.proofs.Common.{take}
use Rattle.basics.specs.Members.{Has}
use Rattle.plan_law.specs.Lives as law
use Rattle.plan_lives.specs.Lives.{lives_of}
use Rattle.plan_rules.specs.Rules.{IsTheOne}
use Rattle.plan_rules.proofs.presence.is_present.Given as goal

abbrev pub invariant-loop-x : goal.invariant-loop-x
invariant-loop-x l = (x : law.Life) → Has (lives_of (take l.x-index l.x-items)) x → ¬ IsTheOne l.g l.removal x
