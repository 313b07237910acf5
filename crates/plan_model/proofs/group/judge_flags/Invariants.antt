use Rattle.plan_rules.specs.Verdicts.{each}
use Rattle.plan_rules.proofs.Trying.{Hears}
use Rattle.plan_model.specs.Faults.{flag_rule}
use Rattle.plan_model.proofs.group.judge_flags.Given as goal

abbrev pub invariant-loop-flag : goal.invariant-loop-flag
invariant-loop-flag l = Hears (each l.flag-iterator (flag_rule l.g l.addition l.pkg)) (each l.addition.enabled (flag_rule l.g l.addition l.pkg))
