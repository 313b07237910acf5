use Rattle.choice_law.proofs.Whole.{leaves_solve}
use Rattle.choice_law.proofs.laws.good_leaves_are_solutions.Goals as goal

pub returns : goal.returns
returns c = leaves_solve
