use Rattle.std.proofs.Common.{◌<◌, ◌≤◌, arith}
use Rattle.build_pool.proofs.pools.BuildPool.drop_failed.Goals as goal

pub returns-clause-faults : goal.returns-clause-faults
returns-clause-faults g c =
    let out = c.recount.ensures.last in
    let low : c.recount.result.faults ≤ g.B.Builder.faults c.args.builder = c.requires.count out.0 c.recount.result (rw (← c.self.view_is, ← c.id-number.ensures) out.1) in
    let sums = c.recount.ensures.sums (λ a. a.faults) in
    rw (← c.self.view_is) (omega (arith, sums, low, c.fault_count-faults.ensures))

pub returns-clause-rose : goal.returns-clause-rose
returns-clause-rose g c above =
    let out = c.recount.ensures.last in
    let low : c.recount.result.faults < g.B.Builder.faults c.args.builder = above out.0 c.recount.result (rw (← c.self.view_is, ← c.id-number.ensures) out.1) in
    let sums = c.recount.ensures.sums (λ a. a.faults) in
    rw (← c.self.view_is) (omega (arith, sums, low, c.fault_count-faults.ensures))
