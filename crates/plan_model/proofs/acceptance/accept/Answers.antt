use Rattle.std.proofs.Common.{List, subst, sym}
use Rattle.std.proofs.lemmas.Result.{err_from_is_err_and}
use Rattle.plan_text.specs.Plans.{plan_value}
use Rattle.plan_check.specs.Asks.{all_asked}
use Rattle.plan_check.specs.declared.asked.Asked.{Asked}
use Rattle.plan_model.specs.Asking.{AreAsked}
use Rattle.plan_model.proofs.Refusing.{refused_breaks, untold}
use Rattle.plan_model.proofs.acceptance.accept.Goals as goal

pub returns-in_err-plan-clause-fault : goal.returns-in_err-plan-clause-fault
returns-in_err-plan-clause-fault c =
    let p = err_from_is_err_and c.from_residual.result c.from_residual.ensures.1 in
    rw (p.1, p.2) (c.in_err-plan.ensures.fault c.args.installed.now)

pub returns-in-Err-clause-fault : goal.returns-in-Err-clause-fault
returns-in-Err-clause-fault c =
    let groups = plan_value c.args.text.now in
    let asked = subst (λ (l : List Asked). AreAsked c.args.offered.now groups (all_asked l)) (sym c.deref.ensures.value) c.in_ok-asks.ensures in
    refused_breaks c.args.installed.now c.args.offered.now groups _ _ (record { linked = c.in_ok-plan.ensures.linked; asked = asked })
    c.in-Err.refused c.of_refused.result c.of_refused.ensures c.in-Err.ensures.refused

pub returns-in-Err-clause-fine : goal.returns-in-Err-clause-fine
returns-in-Err-clause-fine c right =
    let groups = plan_value c.args.text.now in
    let asked = subst (λ (l : List Asked). AreAsked c.args.offered.now groups (all_asked l)) (sym c.deref.ensures.value) c.in_ok-asks.ensures in
    untold c.in-Err.refused c.of_refused.result c.of_refused.ensures
    (c.in-Err.ensures.fine (right.accepted c.in_ok-plan.plan c.in_ok-plan.ensures.linked)
    (right.bound c.in_ok-plan.plan (all_asked c.deref.result.now) c.in_ok-plan.ensures.linked asked))
