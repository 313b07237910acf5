use Rattle.pkg_state.proofs.Faults.{none_fits, once, some}
use Rattle.pkg_state.proofs.laws.one_fault.Goals as goal

pub returns-clause-once : goal.returns-clause-once
returns-clause-once c = once

pub returns-clause-none : goal.returns-clause-none
returns-clause-none c = none_fits

pub returns-clause-some : goal.returns-clause-some
returns-clause-some c = some
