use Rattle.std.proofs.Common.{None, Some, arith}
use Rattle.plan_model.proofs.Named.{first_under, found_at, none_left}
use Rattle.plan_model.proofs.finding.find.Goals as goal

pub returns-then-is_named : goal.returns-then-is_named
returns-then-is_named c =
    let a = c.args.addition.now in
    let offers = c.args.offers.now in
    let items = c.get-pkg-items.result.now in
    let item = c.pkg-item.result in
    first_under offers.offered.now offers.named.lists a c.text.result.now items (Some item.now) offers.are_named c.text.ensures.text c.get-pkg-items.ensures
    (c.loop-pkg.invariant (Some item.now) (found_at a items c.loop-pkg.pkg-index item (omega arith) c.pkg-item.is (c.is_named.ensures.0 c.if-is_named.true)))

pub returns : goal.returns
returns c =
    let a = c.args.addition.now in
    let offers = c.args.offers.now in
    let items = c.get-pkg-items.result.now in
    first_under offers.offered.now offers.named.lists a c.text.result.now items None offers.are_named c.text.ensures.text c.get-pkg-items.ensures
    (c.loop-pkg.invariant None (none_left a items c.loop-pkg.pkg-index (omega arith)))
