use Rattle.std.proofs.lemmas.Result.{IfOk-weaker}
use Rattle.plan_text.specs.Plans.{plan_value}
use Rattle.emerge_choose.proofs.planning.first_accepted.Goals as goal

pub returns-in-Err-clause-chosen : goal.returns-in-Err-clause-chosen
returns-in-Err-clause-chosen c =
    IfOk-weaker c.second.result _ _ (λ chosen is. is (plan_value c.args.plans.fine) c.in-Err.ensures.fault) c.second.ensures.chosen
