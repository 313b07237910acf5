use Rattle.std.proofs.Common.{arith}
use Rattle.plan_lives.proofs.Bits.{joined_bits}
use Rattle.plan_lives.proofs.reach.join.Goals as goal

pub returns-clause-bits : goal.returns-clause-bits
returns-clause-bits c k = joined_bits c.args.row.now.items c.args.other.now c.loop-i.row.items (λ j h. c.loop-i.invariant.1 j (omega (arith, h))) (λ j h. c.loop-i.invariant.2 j (omega (arith, h))) k
