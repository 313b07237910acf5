use Rattle.std.proofs.Common.{drop}
use Rattle.plan_lives.specs.Form.{AreBelow}
use Rattle.plan_lives.proofs.plan.are_below.Given as goal

abbrev pub invariant-loop-h : goal.invariant-loop-h
invariant-loop-h l = AreBelow (drop l.h-index l.after) l.g → AreBelow l.after l.g
