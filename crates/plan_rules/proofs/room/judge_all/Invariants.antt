use Rattle.std.proofs.Common.{◌≡◌, drop}
use Rattle.plan_lives.specs.Index.{plan_of}
use Rattle.plan_lives.specs.Lives.{life_of, lives_of}
use Rattle.plan_rules.specs.Order.{number_of}
use Rattle.plan_rules.specs.Refusals.{Refusal as refused}
use Rattle.plan_rules.specs.Rules.{Hinders, room_of}
use Rattle.plan_rules.specs.Verdicts.{each_from, refuse}
use Rattle.plan_rules.proofs.Trying.{Hears}
use Rattle.plan_rules.proofs.room.judge_all.Given as goal

abbrev pub invariant-loop-j : goal.invariant-loop-j
invariant-loop-j l = Hears (each_from l.j (lives_of (drop l.j l.all)) (λ k z. refuse ((¬ (k ≡ l.i)) × Hinders (plan_of l.index) (life_of l.x) z) (refused.Occupied (number_of (life_of l.x).birth) (life_of l.x).package_is.facts.id z.package_is.facts.id)))
    (room_of (plan_of l.index) (lives_of l.all) l.i (life_of l.x))
