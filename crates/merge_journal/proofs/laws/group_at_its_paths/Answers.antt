use Rattle.merge_journal.proofs.Changes.{covered, outside}
use Rattle.merge_journal.proofs.laws.group_at_its_paths.Goals as goal

pub returns-clause-own : goal.returns-clause-own
returns-clause-own c = λ h q x y is mine. covered h q x y is.staged mine

pub returns-clause-others : goal.returns-clause-others
returns-clause-others c = outside
