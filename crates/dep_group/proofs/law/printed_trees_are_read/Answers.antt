use Rattle.dep_group.proofs.ReadingLemmas.{read-printed}
use Rattle.dep_group.proofs.law.printed_trees_are_read.Goals as goal

pub returns : goal.returns
returns g c = λ any_of barred ts low free. read-printed any_of barred ts low free
