use Rattle.std.proofs.Common.{sym}
use Rattle.tree_mem.proofs.Held.{held-missing, Some-here}
use Rattle.tree_mem.proofs.items.get.Goals as goal

pub returns-in-Ok : goal.returns-in-Ok
returns-in-Ok c =
    let s = rw c.text.ensures.text at c.in-Ok.ensures in
    Some-here _ _ _ _ c.requires.rising s

pub returns-in-Err : goal.returns-in-Err
returns-in-Err c =
    let g = rw c.text.ensures.text at c.in-Err.ensures in
    sym (held-missing _ _ _ g)
