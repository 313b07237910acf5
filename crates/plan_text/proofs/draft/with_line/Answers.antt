use Rattle.plan_text.proofs.draft.with_line.Goals as goal

pub with_group-requires-clause-follows : goal.with_group-requires-clause-follows
with_group-requires-clause-follows c = rw c.in-Group.is at c.requires.follows
