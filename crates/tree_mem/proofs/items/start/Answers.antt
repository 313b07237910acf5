use Rattle.tree_mem.proofs.Below.{starts-at_found, starts-at_missing}
use Rattle.tree_mem.proofs.items.start.Goals as goal

pub returns-in-Ok : goal.returns-in-Ok
returns-in-Ok c = starts-at_found _ _ _ c.requires.rising c.in-Ok.ensures

pub returns-in-Err : goal.returns-in-Err
returns-in-Err c = starts-at_missing _ _ _ c.in-Err.ensures
