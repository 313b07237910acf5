use Rattle.std.proofs.Common.{◌<◌, ℕ}
use Rattle.plan_law.specs.Plans.{group_at}
use Rattle.plan_lives.specs.Form.{AreBelow}
use Rattle.plan_lives.proofs.plan.waits_for_earlier.Given as goal

abbrev pub invariant-loop-g : goal.invariant-loop-g
invariant-loop-g l = (i : ℕ) → i < l.g → AreBelow (group_at l.groups i).after i
