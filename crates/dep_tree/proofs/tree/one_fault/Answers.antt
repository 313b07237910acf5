use Rattle.dep_tree.proofs.FaultLemmas.{none, once}
use Rattle.dep_tree.proofs.tree.one_fault.Goals as goal

pub returns-clause-once : goal.returns-clause-once
returns-clause-once c = λ text a b h k. once text a b h k

pub returns-clause-none : goal.returns-clause-none
returns-clause-none c = λ text a x h. none text a x h
