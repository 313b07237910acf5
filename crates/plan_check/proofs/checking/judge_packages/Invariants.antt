use Rattle.std.proofs.Common.{drop, map}
use Rattle.plan_lives.specs.Index.{plan_of, start_of}
use Rattle.plan_lives.specs.Lives.{lives_of}
use Rattle.plan_check.specs.PackageRules.{package_rule}
use Rattle.plan_check.specs.Turns.{tried_value}
use Rattle.plan_rules.specs.Verdicts.{each}
use Rattle.plan_rules.proofs.Trying.{Hears}
use Rattle.plan_check.proofs.checking.judge_packages.Given as goal

abbrev pub invariant-loop-one : goal.invariant-loop-one
invariant-loop-one l = Hears (each (map tried_value (drop l.one-index l.tried)) (package_rule (plan_of l.index) (start_of l.index) (lives_of l.all)))
    (each (map tried_value l.tried) (package_rule (plan_of l.index) (start_of l.index) (lives_of l.all)))
