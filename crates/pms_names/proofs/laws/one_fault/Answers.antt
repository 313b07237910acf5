use Rattle.pms_names.proofs.Faults as faults
use Rattle.pms_names.proofs.laws.one_fault.Goals as goal

pub returns : goal.returns
returns c = record { once = faults.one_fault; none = faults.no_fault }
