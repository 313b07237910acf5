use Rattle.std.proofs.Common.{◌∙◌, ◌/◌, arith}
use Rattle.std.proofs.lemmas.Grind.{get_or_default_zero}
use Rattle.plan_lives.proofs.Bits.{set_bits}
use Rattle.plan_lives.proofs.reach.set_bit.Goals as goal

pub returns-clause-bits : goal.returns-clause-bits
returns-clause-bits c k = set_bits c.args.row.now.items c.args.bit k c.index_mut.result.now c.requires (c.index_mut.ensures.value ∙ get_or_default_zero c.args.row.now.items (c.args.bit / 64) c.index_mut.result.now (let h = c.requires in omega arith))
