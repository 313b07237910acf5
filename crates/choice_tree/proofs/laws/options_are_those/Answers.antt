use Rattle.choice_tree.proofs.Among.{options_are_those}
use Rattle.choice_tree.proofs.laws.options_are_those.Goals as goal

pub returns : goal.returns
returns c = options_are_those
