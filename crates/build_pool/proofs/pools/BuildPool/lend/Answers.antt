use Rattle.build_pool.proofs.Once.{no_other}
use Rattle.build_pool.proofs.pools.BuildPool.lend.Goals as goal

pub returns-clause-other : goal.returns-clause-other
returns-clause-other g c once =
    let here = rw (← c.self.view_is) at (once (g.B.Builder.number c.in_ok-builder.builder)) in
    let each = rw c.in_ok-builder.ensures.items at here in
    rw (← c.self.view_is)
    (λ k d lt e. no_other g.B.Builder.number c.pop.new.self.items c.in_ok-builder.builder c.self.inside.lent.items k d each lt e)
