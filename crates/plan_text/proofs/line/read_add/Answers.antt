use Rattle.plan_text.specs.declared.kind.Kind.TheVariants as kinds
use Rattle.plan_text.proofs.Said.{none_of}
use Rattle.plan_text.proofs.line.read_add.Goals as goal

pub returns-in-None : goal.returns-in-None
returns-in-None c = none_of kinds.Add _ (rw c.in-None.is at c.in_ok-addition.ensures)
