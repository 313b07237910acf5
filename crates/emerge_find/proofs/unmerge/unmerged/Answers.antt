use Rattle.std.proofs.Common.{map}
use Rattle.std.proofs.lemmas.Result.{err_from_is_err_and}
use Rattle.dep_atom.specs.Values.{atom_value}
use Rattle.plan_text.specs.Plans.{plan_value}
use Rattle.emerge_find.proofs.Told.{bars, no_addition}
use Rattle.emerge_find.proofs.unmerge.unmerged.Goals as goal

pub returns-in_err-text-clause-fault : goal.returns-in_err-text-clause-fault
returns-in_err-text-clause-fault c =
    let p = err_from_is_err_and c.from_residual.result c.from_residual.ensures.1 in
    rw (p.1, p.2) (c.in_err-text.ensures.fault c.args.offered.now)

pub of_unaccepted-requires : goal.of_unaccepted-requires
of_unaccepted-requires c =
    no_addition c.args.installed.now c.args.offered.now (map atom_value c.args.atoms.now) (plan_value c.in_ok-text.text) c.in_ok-text.ensures.text c.in-Err.fault c.in-Err.ensures.fault

pub returns-in-Err-clause-fault : goal.returns-in-Err-clause-fault
returns-in-Err-clause-fault c =
    bars c.args.installed.now c.args.offered.now (map atom_value c.args.atoms.now) (plan_value c.in_ok-text.text) c.in_ok-text.ensures.text c.in-Err.fault c.of_unaccepted.result c.in-Err.ensures.fault c.of_unaccepted.ensures
