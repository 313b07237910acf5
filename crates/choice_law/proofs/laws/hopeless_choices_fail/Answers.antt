use Rattle.choice_law.proofs.Hopeless.{hopeless_fail}
use Rattle.choice_law.proofs.laws.hopeless_choices_fail.Goals as goal

pub returns : goal.returns
returns c = hopeless_fail
