use Rattle.host_side.proofs.NoPath.{no_path_has}
use Rattle.host_side.proofs.spare.no_path_is_spare.Goals as goal

pub returns : goal.returns
returns c = no_path_has
