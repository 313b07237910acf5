use Rattle.std.proofs.Common.{drop, map}
use Rattle.plan_lives.specs.Index.{plan_of, start_of}
use Rattle.plan_rules.specs.Rules.{present_of}
use Rattle.plan_rules.specs.Verdicts.{each}
use Rattle.plan_rules.proofs.Trying.{Hears}
use Rattle.plan_rules.proofs.presence.judge_in_order.Given as goal

abbrev pub invariant-loop-one : goal.invariant-loop-one
invariant-loop-one l = Hears (each (map (λ one. one.removal.now) (drop l.one-index l.all)) (present_of (plan_of l.index) (start_of l.index) l.g))
    (each (map (λ one. one.removal.now) l.all) (present_of (plan_of l.index) (start_of l.index) l.g))
