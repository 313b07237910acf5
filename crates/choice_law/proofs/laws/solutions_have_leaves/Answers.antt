use Rattle.choice_law.proofs.Whole.{solutions_leave}
use Rattle.choice_law.proofs.laws.solutions_have_leaves.Goals as goal

pub returns : goal.returns
returns c = solutions_leave
