use Rattle.choice_tree.proofs.Smaller.{smaller}
use Rattle.choice_tree.proofs.laws.options_decide_more.Goals as goal

pub returns : goal.returns
returns c = smaller
