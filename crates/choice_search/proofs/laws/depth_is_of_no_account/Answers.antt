use Rattle.choice_search.proofs.Deep.{no_account}
use Rattle.choice_search.proofs.laws.depth_is_of_no_account.Goals as goal

pub returns : goal.returns
returns g c = no_account
