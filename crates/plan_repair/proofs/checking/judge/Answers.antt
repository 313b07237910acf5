use Rattle.std.proofs.Common.{◌∙◌}
use Rattle.std.proofs.lemmas.Result.{err_from_is_err_and}
use Rattle.plan_check.specs.Asks.{all_asked}
use Rattle.plan_repair.proofs.Repairs.{judged, told_first}
use Rattle.plan_repair.proofs.checking.judge.Goals as goal

pub returns-in_err-check : goal.returns-in_err-check
returns-in_err-check c =
    let p = err_from_is_err_and c.from_residual-in_err-check.result c.from_residual-in_err-check.ensures.1 in
    rw (p.1, p.2) (told_first c.args.plan.now c.args.start.now (all_asked c.args.asks.now) c.deref.result.now (c.deref.ensures.value ∙ c.in_ok-bare.ensures) c.in_err-check.field-0.0 c.in_err-check.ensures.refused)

pub returns : goal.returns
returns c =
    judged c.args.plan.now c.args.start.now (all_asked c.args.asks.now) c.deref.result.now (c.deref.ensures.value ∙ c.in_ok-bare.ensures) c.deref-2.result.now c.judge_packages.result (c.deref-2.ensures.value ∙ c.in_ok-packages.ensures) c.in_ok-check.ensures.passed c.judge_packages.ensures
