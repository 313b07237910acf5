use Rattle.choice_search.proofs.Jumps.{loses_nothing}
use Rattle.choice_search.proofs.laws.jumps_lose_nothing.Goals as goal

pub returns : goal.returns
returns g c =
    let t = c.args._tree.now in
    loses_nothing (g.T.Tree.shape t) (g.T.Deciding.decided t) (g.T.Deciding.fits t) (g.T.Deciding.is_solution t) (g.met.T.Deciding.jumps t)
