use Rattle.emerge_find.proofs.Fit.{found_fit}
use Rattle.emerge_find.proofs.laws.found_plans_are_fit.Goals as goal

pub returns : goal.returns
returns c = found_fit c.linked_additions_can_be_kept.ensures
