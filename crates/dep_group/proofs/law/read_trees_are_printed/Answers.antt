use Rattle.dep_group.proofs.ReadingLemmas.{read-ok}
use Rattle.dep_group.proofs.law.read_trees_are_printed.Goals as goal

pub returns : goal.returns
returns g c = λ any_of barred tokens out h. read-ok any_of barred tokens out h
