use Rattle.config_text.proofs.OneText.{no_fault, one_list}
use Rattle.config_text.proofs.law.one_reading.Goals as goal

pub returns-clause-one : goal.returns-clause-one
returns-clause-one c = λ known bytes xs ys p q. one_list known bytes xs ys p q

pub returns-clause-none : goal.returns-clause-none
returns-clause-none c = λ known bytes xs fault u p f. no_fault known bytes xs fault u p f
