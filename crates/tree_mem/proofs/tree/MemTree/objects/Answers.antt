use Rattle.tree_mem.proofs.Below.{paths-sorted}
use Rattle.tree_mem.proofs.Held.{contains-held}
use Rattle.tree_mem.proofs.tree.MemTree.objects.Goals as goal

pub returns-clause-rising : goal.returns-clause-rising
returns-clause-rising c = paths-sorted _ c.objects.ensures.rising

pub returns-clause-held : goal.returns-clause-held
returns-clause-held c p x = rw c.objects.ensures.held (contains-held c.objects.result.now p x c.objects.ensures.rising)
