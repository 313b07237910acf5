use Rattle.merge_graph.proofs.Single.{numbers_one}
use Rattle.merge_graph.proofs.laws.numbers_are_one.Goals as goal

pub returns : goal.returns
returns c = numbers_one
