use Rattle.std.proofs.Common.{drop}
use Rattle.plan_lives.specs.Index.{plan_of, start_of}
use Rattle.plan_rules.specs.Rules.{present_at, present_rule}
use Rattle.plan_rules.specs.Verdicts.{each_from}
use Rattle.plan_rules.proofs.Trying.{Hears}
use Rattle.plan_rules.proofs.presence.judge_present.Given as goal

abbrev pub invariant-loop-g : goal.invariant-loop-g
invariant-loop-g l = Hears (each_from l.g (drop l.g (plan_of l.index)) (present_at (plan_of l.index) (start_of l.index))) (present_rule (plan_of l.index) (start_of l.index))
