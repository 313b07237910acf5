use Rattle.plan_model.proofs.KeptAdditions.{additions_kept}
use Rattle.plan_model.proofs.laws.linked_additions_can_be_kept.Goals as goal

pub returns : goal.returns
returns c = additions_kept c.trees_in_form_are_atoms_in_groups.ensures
