use Rattle.std.proofs.Common.{arith}
use Rattle.owner_book.proofs.Naming.{wish_named}
use Rattle.owner_book.proofs.named.Named.name_all.Goals as goal

pub loop-wish-preserved : goal.loop-wish-preserved
loop-wish-preserved c = (
  wish_named c.args.placed.now c.loop-wish.wish-index c.wish-item.result c.loop-wish.self c.name.new.self (omega arith) c.wish-item.is c.loop-wish.invariant.0 c.name.ensures.stays c.in_ok-name.ensures.named,
  λ n q h. c.name.ensures.stays n q (c.loop-wish.invariant.1 n q h),
)
