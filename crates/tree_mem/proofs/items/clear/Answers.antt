use Rattle.std.proofs.Common.{sym}
use Rattle.tree_mem.proofs.Held.{held-cleared, held-missing, held-removed, IsRising-removed, Some-taken}
use Rattle.tree_mem.proofs.items.clear.Goals as goal

pub returns-in-Ok-clause-rising : goal.returns-in-Ok-clause-rising
returns-in-Ok-clause-rising c =
    let s = rw (c.as_slice.ensures.value, c.text.ensures.text) at c.in-Ok.ensures in
    rw c.remove-old.ensures.items (IsRising-removed _ _ _ c.requires.rising s)

pub returns-in-Ok-clause-held : goal.returns-in-Ok-clause-held
returns-in-Ok-clause-held c =
    let s = rw (c.as_slice.ensures.value, c.text.ensures.text) at c.in-Ok.ensures in
    rw c.remove-old.ensures.items (held-removed _ _ _ c.requires.rising s)

pub returns-in-Ok-clause-before : goal.returns-in-Ok-clause-before
returns-in-Ok-clause-before c =
    let s = rw (c.as_slice.ensures.value, c.text.ensures.text) at c.in-Ok.ensures in
    Some-taken _ _ _ _ c.requires.rising s c.remove-old.ensures.value

pub returns-in-Err-clause-held : goal.returns-in-Err-clause-held
returns-in-Err-clause-held c =
    let g = rw (c.as_slice.ensures.value, c.text.ensures.text) at c.in-Err.ensures in
    held-cleared _ _ (held-missing _ _ _ g)

pub returns-in-Err-clause-before : goal.returns-in-Err-clause-before
returns-in-Err-clause-before c =
    let g = rw (c.as_slice.ensures.value, c.text.ensures.text) at c.in-Err.ensures in
    sym (held-missing _ _ _ g)
