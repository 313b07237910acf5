use Rattle.std.proofs.Common.{◌∙◌, ◌<◌, arith, length}
use Rattle.std.proofs.lemmas.Result.{err_from_is_err_and}
use Rattle.basics.proofs.Membership.{has-at}
use Rattle.build_pool.specs.Pool.{PoolRose}
use Rattle.merge_image.specs.Images.{IsBuilt, IsPastLimit}
use Rattle.run_plan.proofs.Ordered.{alike_then, brings_more, built_before, images_more, order_stops, past_before, rose_before}
use Rattle.run_plan.proofs.newcomers.newcomers_of.Goals as goal

pub returns-in_err-image-clause-stops : goal.returns-in_err-image-clause-stops
returns-in_err-image-clause-stops g c =
    let B = g.B.Builder in
    let inv = c.loop-place.invariant in
    let p = err_from_is_err_and c.from_residual-in_err-image.result c.from_residual-in_err-image.ensures.1 in
    let o = c.index-orders-place.result in
    let old = c.args.pool.now in
    let mid = c.loop-place.pool in
    let new = c.image_of.new.pool in
    let has = has-at c.args.orders.now c.loop-place.place o (omega (arith, c.loop-place-test.true)) c.index-orders-place.is in
    rw (p.1, p.2)
    (order_stops (IsPastLimit B.tells B.told mid.resting) (IsPastLimit B.tells B.told old.resting) (PoolRose B.faults mid new) (PoolRose B.faults old new)
    (λ x past. past_before B.told B.tells old.resting mid.resting x inv.2 past) (λ rose. rose_before B.faults old mid new inv.6 rose)
    c.args.orders.now o c.in_err-image.field-0.0 has c.in_err-image.ensures.stops)

pub returns-in_err-image-clause-alike : goal.returns-in_err-image-clause-alike
returns-in_err-image-clause-alike g c = alike_then g.B.Builder.told c.args.pool.now.resting c.loop-place.pool.resting c.image_of.new.pool.resting c.loop-place.invariant.2 c.image_of.ensures.alike

pub returns-in_err-pkg-clause-alike : goal.returns-in_err-pkg-clause-alike
returns-in_err-pkg-clause-alike g c = alike_then g.B.Builder.told c.args.pool.now.resting c.loop-place.pool.resting c.image_of.new.pool.resting c.loop-place.invariant.2 c.image_of.ensures.alike

pub returns-in_err-add-clause-alike : goal.returns-in_err-add-clause-alike
returns-in_err-add-clause-alike g c = alike_then g.B.Builder.told c.args.pool.now.resting c.loop-place.pool.resting c.image_of.new.pool.resting c.loop-place.invariant.2 c.image_of.ensures.alike

pub loop-place-preserved : goal.loop-place-preserved
loop-place-preserved g c =
    let B = g.B.Builder in
    let inv = c.loop-place.invariant in
    let i = c.loop-place.place in
    let old = c.args.pool.now in
    let mid = c.loop-place.pool in
    let o = c.index-orders-place.result in
    let e = c.image_of.ensures in
    let later = e.builds in
    let orders = c.args.orders.now in
    let additions = c.args.additions.now in
    let lt : i < length orders = omega (arith, c.loop-place-test.true) in
    let lt2 : i < length additions = omega (arith, lt, c.requires.count) in (
      brings_more c.loop-place.newcomers.items c.add.new.newcomers.items _ additions i c.index-additions-place.result lt2 c.index-additions-place.is inv.0 c.in_ok-pkg.ensures c.in_ok-add.ensures,
      images_more (λ o n. IsBuilt B.tells B.told old.resting o n.image.items) c.loop-place.newcomers.items c.add.new.newcomers.items _ orders i o lt c.index-orders-place.is inv.1
          (built_before B.told B.tells old.resting mid.resting o c.in_ok-image.image.items inv.2 c.in_ok-image.ensures.image) c.in_ok-add.ensures,
      alike_then B.told old.resting mid.resting c.image_of.new.pool.resting inv.2 e.alike,
      e.resting ∙ inv.3,
      (λ n. e.ids n ∙ inv.4 n),
      e.lent ∙ inv.5,
      omega (arith, later, inv.6),
    )
