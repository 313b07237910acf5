use Rattle.pkg_state.proofs.OneState.{one}
use Rattle.pkg_state.proofs.laws.one_state.Goals as goal

pub returns : goal.returns
returns c = one
