use Rattle.std.proofs.lemmas.Result.{err_from_is_err_and}
use Rattle.emerge_choose.proofs.choosing.plan_over.Goals as goal

pub returns-in_err-choice-clause-fault : goal.returns-in_err-choice-clause-fault
returns-in_err-choice-clause-fault c =
    let p = err_from_is_err_and c.from_residual-in_err-choice.result c.from_residual-in_err-choice.ensures.1 in
    rw (p.1, p.2) (c.in_err-choice.ensures.fault c.args.installed.now c.args.offered.now c.args.hidden.now)
