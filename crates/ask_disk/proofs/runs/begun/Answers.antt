use Rattle.std.proofs.Common.{[], sym, subst, true}
use Rattle.merge_group.specs.Runs.{IsUnderWay}
use Rattle.tree_mem.specs.MemTree.{mem_story}
use Rattle.ask_disk.proofs.runs.begun.Goals as goal

pub returns-in-Ok-clause-begun : goal.returns-in-Ok-clause-begun
returns-in-Ok-clause-begun c =
    subst (λ t. IsUnderWay true (mem_story t).now.holds [] [] [] c.in-Ok.site) (sym c.in-Ok.ensures.opened) c.in-Ok.ensures.under_way
