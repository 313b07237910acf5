use Rattle.choice_tree.proofs.Pick.{first_is_a_pick}
use Rattle.choice_tree.proofs.laws.first_open_is_a_pick.Goals as goal

pub returns : goal.returns
returns c = first_is_a_pick
