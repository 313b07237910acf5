use Rattle.pms_version.proofs.Begins.{begins_itself}
use Rattle.pms_version.proofs.laws.each_begins_itself.Goals as goal

pub returns : goal.returns
returns c = begins_itself
