use Rattle.std.proofs.Common.{arith}
use Rattle.plan_lives.specs.Lives.{life_of}
use Rattle.plan_lives.proofs.Keyed.{item_at}
use Rattle.merge_groups.proofs.beside.greatest.Goals as goal

pub is_beside-requires-clause-birth : goal.is_beside-requires-clause-birth
is_beside-requires-clause-birth c = (c.requires.within (life_of c.y-item.result) (item_at c.args.fits.now c.loop-y.y-index c.y-item.result (omega arith) c.y-item.is)).0

pub is_beside-requires-clause-death : goal.is_beside-requires-clause-death
is_beside-requires-clause-death c = (c.requires.within (life_of c.y-item.result) (item_at c.args.fits.now c.loop-y.y-index c.y-item.result (omega arith) c.y-item.is)).1
