use Rattle.std.proofs.Common.{◌∙◌}
use Rattle.pms_version.proofs.Faults.{no_fault}
use Rattle.pms_version.proofs.version.Version.parse.Goals as goal

pub returns-in-Err-clause-only : goal.returns-in-Err-clause-only
returns-in-Err-clause-only c p r e = no_fault c.as_bytes.result.now c.in-Err.fault c.in-Err.ensures.fault p r (c.as_bytes.ensures.value ∙ e)
