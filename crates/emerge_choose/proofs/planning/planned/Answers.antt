use Rattle.std.proofs.lemmas.Result.{err_from_is_err_and}
use Rattle.choice_tree.specs.Views.{universe_of}
use Rattle.plan_text.specs.Plans.{plan_value}
use Rattle.emerge_choose.proofs.Told.{chosen_plan, not_planned}
use Rattle.emerge_choose.proofs.planning.planned.Goals as goal

pub returns-in_err-chosen-clause-fault : goal.returns-in_err-chosen-clause-fault
returns-in_err-chosen-clause-fault c =
    let p = err_from_is_err_and c.from_residual-in_err-chosen.result c.from_residual-in_err-chosen.ensures.1 in
    let plans = c.in_ok-plans.plans in
    rw (p.1, p.2) (λ hidden update limit first.
    not_planned c.args.installed.now c.args.offered.now update limit (universe_of c.args.universe.now) c.args.choice.now c.requires.served first (plan_value plans.fine) (plan_value plans.level)
    c.in_ok-plans.ensures.fine c.in_ok-plans.ensures.level hidden c.in_err-chosen.field-0.0 c.in_err-chosen.ensures.fault)

pub returns-clause-chosen : goal.returns-clause-chosen
returns-clause-chosen c = λ update limit first.
    let plans = c.in_ok-plans.plans in
    chosen_plan c.args.installed.now c.args.offered.now update limit (universe_of c.args.universe.now) c.args.choice.now c.requires.served first (plan_value plans.fine) (plan_value plans.level)
    c.in_ok-plans.ensures.fine c.in_ok-plans.ensures.level c.in_ok-chosen.chosen c.in_ok-chosen.ensures.chosen
