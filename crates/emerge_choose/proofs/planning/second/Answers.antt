use Rattle.std.proofs.Common.{subst}
use Rattle.std.proofs.lemmas.Result.{err_from_is_err_and}
use Rattle.plan_text.specs.Plans.{plan_value}
use Rattle.plan_model.specs.Accepting.{Breaks}
use Rattle.emerge_choose.proofs.Told.{second_refused}
use Rattle.emerge_choose.proofs.planning.second.Goals as goal

pub returns-in_err-chosen-in-Refused-clause-fault : goal.returns-in_err-chosen-in-Refused-clause-fault
returns-in_err-chosen-in-Refused-clause-fault c =
    let p = err_from_is_err_and c.from_residual.result c.from_residual.ensures.1 in
    rw (p.1, p.2) (λ fine breaks.
    second_refused c.args.installed.now c.args.offered.now fine (plan_value c.args.level) c.in_err-chosen-in-Refused.field-0.0
    (c.in-Refused.refused, subst (Breaks c.args.installed.now c.args.offered.now fine) c.in-Refused.is breaks) c.in_err-chosen-in-Refused.ensures.fault)
