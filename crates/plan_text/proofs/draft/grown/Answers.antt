use Rattle.plan_text.proofs.draft.grown.Goals as goal

pub with_after-requires-clause-some : goal.with_after-requires-clause-some
with_after-requires-clause-some c = (rw c.in-After.is at c.requires.form).0

pub with_addition-requires : goal.with_addition-requires
with_addition-requires c = (rw c.in-Add.is at c.requires.form).1

pub returns-in-After-clause-lines : goal.returns-in-After-clause-lines
returns-in-After-clause-lines c = rw c.in-After.is c.with_after.ensures.lines

pub returns-in-Remove-clause-lines : goal.returns-in-Remove-clause-lines
returns-in-Remove-clause-lines c = rw c.in-Remove.is c.with_removal.ensures.lines

pub returns-in-Add-clause-lines : goal.returns-in-Add-clause-lines
returns-in-Add-clause-lines c = rw c.in-Add.is c.with_addition.ensures.lines

pub returns-in-Bind-clause-lines : goal.returns-in-Bind-clause-lines
returns-in-Bind-clause-lines c = rw c.in-Bind.is c.with_bind.ensures.lines
