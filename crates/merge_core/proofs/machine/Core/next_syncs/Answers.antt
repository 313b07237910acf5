use Rattle.std.proofs.Common.{arith}
use Rattle.merge_core.proofs.Kept.{syncs_fit}
use Rattle.merge_core.proofs.machine.Core.next_syncs.Goals as goal

pub overflow_add-result : goal.overflow_add-result
overflow_add-result c = omega (arith, syncs_fit c.self.inside.standings.items c.self.inside.syncs c.self.invariant.groups c.self.invariant.syncs)
