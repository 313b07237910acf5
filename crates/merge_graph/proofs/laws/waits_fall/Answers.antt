use Rattle.merge_graph.proofs.Single.{waits_below}
use Rattle.merge_graph.proofs.laws.waits_fall.Goals as goal

pub returns : goal.returns
returns c = waits_below
