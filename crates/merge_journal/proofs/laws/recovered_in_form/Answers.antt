use Rattle.merge_journal.proofs.Forms.{judged_in_form, recovered_in_form}
use Rattle.merge_journal.proofs.laws.recovered_in_form.Goals as goal

pub returns-clause-records : goal.returns-clause-records
returns-clause-records c = judged_in_form

pub returns-clause-is : goal.returns-clause-is
returns-clause-is c = recovered_in_form
