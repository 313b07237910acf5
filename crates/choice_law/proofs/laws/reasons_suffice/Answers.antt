use Rattle.choice_law.proofs.Options.{reasons_suffice}
use Rattle.choice_law.proofs.laws.reasons_suffice.Goals as goal

pub returns : goal.returns
returns c = reasons_suffice
