use Rattle.std.proofs.Common.{drop}
use Rattle.plan_lives.specs.Index.{plan_of}
use Rattle.plan_lives.specs.Lives.{lives_of}
use Rattle.plan_rules.specs.Rules.{room_of, room_rule}
use Rattle.plan_rules.specs.Verdicts.{each_from}
use Rattle.plan_rules.proofs.Trying.{Hears}
use Rattle.plan_rules.proofs.room.judge_room.Given as goal

abbrev pub invariant-loop-i : goal.invariant-loop-i
invariant-loop-i l = Hears (each_from l.i (lives_of (drop l.i l.all)) (room_of (plan_of l.index) (lives_of l.all))) (room_rule (plan_of l.index) (lives_of l.all))
