use Rattle.owner_book.specs.Named.{named_under, owned_among}
use Rattle.owner_book.proofs.Under.{owned_end, owned_init, owned_step, under_forward}
use Rattle.owner_book.proofs.owned.owned_paths.Goals as goal

pub range-key-items-requires : goal.range-key-items-requires
range-key-items-requires c = under_forward c.from-number.result c.first_under-start.result c.first_under-end.result c.first_under-start.ensures c.first_under-end.ensures

pub loop-key-init : goal.loop-key-init
loop-key-init c =
    owned_init c.args.index.now c.args.owner c.args.named.now c.from-number.result c.new-paths.result.items c.first_under-start.result c.first_under-end.result c.range-key-items.result c.into_iter-key-iterator.result
    c.from-number.ensures c.new-paths.ensures.items c.first_under-start.ensures c.first_under-end.ensures (c.range-key-items.ensures.between tt) c.into_iter-key-iterator.ensures.into_iter_gives

pub loop-key-preserved : goal.loop-key-preserved
loop-key-preserved c =
    owned_step c.args.index.now c.args.owner c.loop-key.paths.items c.add_owned.new.paths.items c.in-Some.key.now c.loop-key.key-iterator c.next.new.self
    (owned_among c.args.index.now c.args.owner (named_under c.args.named.now c.args.owner.number)) c.in-Some.ensures.steps c.in_ok-add_owned.ensures c.loop-key.invariant

pub returns : goal.returns
returns c =
    owned_end c.args.index.now c.args.owner c.loop-key.paths.items c.loop-key.key-iterator
    (owned_among c.args.index.now c.args.owner (named_under c.args.named.now c.args.owner.number)) c.in-None.ensures.steps.0 c.loop-key.invariant
