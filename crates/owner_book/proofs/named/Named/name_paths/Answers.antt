use Rattle.std.proofs.Common.{arith}
use Rattle.owner_book.proofs.Naming.{path_named}
use Rattle.owner_book.proofs.named.Named.name_paths.Goals as goal

pub loop-path-preserved : goal.loop-path-preserved
loop-path-preserved c = (
  path_named c.args.paths.now c.loop-path.path-index c.path-item.result c.loop-path.self c.name.new.self c.args.owner.number (omega arith) c.path-item.is c.loop-path.invariant.0 c.name.ensures.stays c.in_ok-name.ensures.named,
  λ n q h. c.name.ensures.stays n q (c.loop-path.invariant.1 n q h),
)
