use Rattle.merge_graph.proofs.Single.{levels_one}
use Rattle.merge_graph.proofs.laws.levels_are_one.Goals as goal

pub returns : goal.returns
returns c = levels_one
