use Rattle.pms_version.proofs.Faults as faults
use Rattle.pms_version.proofs.laws.one_fault.Goals as goal

pub returns : goal.returns
returns c = record { once = faults.one_fault; none = λ bytes a p is e f. faults.no_fault bytes a f p is e }
