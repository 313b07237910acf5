use Rattle.merge_journal.proofs.Form.{judged_alike, judged_if, judged_words}
use Rattle.merge_journal.proofs.laws.judged_in_form.Goals as goal

pub returns-clause-form : goal.returns-clause-form
returns-clause-form c = λ m taken g r. (judged_words m taken g r, judged_if m taken g r)

pub returns-clause-alike : goal.returns-clause-alike
returns-clause-alike c = judged_alike
