use Rattle.std.proofs.Common.{◌∙◌, List, subst}
use Rattle.pkg_state.specs.Package.{Package}
use Rattle.plan_law.specs.Plans.{Group}
use Rattle.plan_lives.specs.Index.{plan_of}
use Rattle.plan_check.specs.Asks.{all_asked}
use Rattle.plan_check.specs.PackageRules.{check_rule}
use Rattle.plan_rules.specs.Refusals.{Says}
use Rattle.plan_check.proofs.checking.judge.Goals as goal

pub returns : goal.returns
returns c =
    subst (λ (p : List Group). Says (check_rule p c.args.start.now (all_asked c.args.asks.now)) c.judge_all.result) (c.in_ok-index.ensures.plan ∙ (c.in_ok-reach.ensures.groups ∙ c.groups-groups.ensures.groups))
    (subst (λ (s : List Package). Says (check_rule (plan_of c.in_ok-index.index) s (all_asked c.args.asks.now)) c.judge_all.result) c.in_ok-index.ensures.start c.judge_all.ensures)
