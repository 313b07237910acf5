use Rattle.std.proofs.lemmas.Result.{err_from_is_err_and}
use Rattle.tree_mem.proofs.choosing.image.Goals as goal

pub returns-in_err-check-clause-fault : goal.returns-in_err-check-clause-fault
returns-in_err-check-clause-fault c =
    let p = err_from_is_err_and c.from_residual.result c.from_residual.ensures.1 in
    rw (p.1, p.2) c.in_err-check.ensures.fault

pub returns-clause-touched : goal.returns-clause-touched
returns-clause-touched c = c.in_ok-check.ensures.ok
