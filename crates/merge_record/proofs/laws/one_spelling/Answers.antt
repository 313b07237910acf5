use Rattle.merge_record.proofs.Whole.{record_again, spelling-injective}
use Rattle.merge_record.proofs.laws.one_spelling.Goals as goal

pub returns-clause-again : goal.returns-clause-again
returns-clause-again c = record_again

pub returns-clause-apart : goal.returns-clause-apart
returns-clause-apart c = spelling-injective
