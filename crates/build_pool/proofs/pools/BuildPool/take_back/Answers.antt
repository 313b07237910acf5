use Rattle.std.proofs.Common.{◌<◌, ◌≤◌, ◌∷◌, [], arith}
use Rattle.std.proofs.lemmas.List.Sums.{sum_by-append}
use Rattle.build_pool.proofs.pools.BuildPool.take_back.Goals as goal

pub returns-clause-faults : goal.returns-clause-faults
returns-clause-faults g c =
    let out = c.take_out.ensures.last in
    let low : c.take_out.result.faults ≤ g.B.Builder.faults c.args.builder = c.requires.count out.0 c.take_out.result (rw (← c.self.view_is, ← c.id.ensures) out.1) in
    let sums = c.take_out.ensures.sums (λ a. a.faults) in
    let split = sum_by-append g.B.Builder.faults c.self.inside.resting.items (c.args.builder ∷ []) in
    rw (← c.self.view_is) (rw c.add.ensures.items (omega (arith, split, sums, low)))

pub returns-clause-rose : goal.returns-clause-rose
returns-clause-rose g c above =
    let out = c.take_out.ensures.last in
    let low : c.take_out.result.faults < g.B.Builder.faults c.args.builder = above out.0 c.take_out.result (rw (← c.self.view_is, ← c.id.ensures) out.1) in
    let sums = c.take_out.ensures.sums (λ a. a.faults) in
    let split = sum_by-append g.B.Builder.faults c.self.inside.resting.items (c.args.builder ∷ []) in
    rw (← c.self.view_is) (rw c.add.ensures.items (omega (arith, split, sums, low)))
