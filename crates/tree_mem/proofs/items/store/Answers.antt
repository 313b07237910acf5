use Rattle.std.proofs.Common.{◌≡◌, get_or, sym}
use Rattle.tree_mem.proofs.Held.{held-missing, held-placed, held-replaced, IsRising-placed, IsRising-replaced, Some-taken}
use Rattle.tree_mem.proofs.items.store.Goals as goal

pub returns-in-Ok-clause-rising : goal.returns-in-Ok-clause-rising
returns-in-Ok-clause-rising c =
    let s = rw (c.as_slice.ensures.value, c.text.ensures.text) at c.in-Ok.ensures in
    rw c.replace-old.ensures.after (IsRising-replaced _ _ _ _ c.requires.rising s)

pub returns-in-Ok-clause-held : goal.returns-in-Ok-clause-held
returns-in-Ok-clause-held c =
    let s = rw (c.as_slice.ensures.value, c.text.ensures.text) at c.in-Ok.ensures in
    rw c.replace-old.ensures.after (held-replaced _ _ _ _ c.requires.rising s)

pub returns-in-Ok-clause-before : goal.returns-in-Ok-clause-before
returns-in-Ok-clause-before c =
    let s = rw (c.as_slice.ensures.value, c.text.ensures.text) at c.in-Ok.ensures in
    let read : c.replace-old.result ≡ get_or c.args.items.now.items c.in-Ok.at c.replace-old.result = rw (c.replace-old.ensures.value) c.index_mut.ensures.value in
    Some-taken _ _ _ _ c.requires.rising s read

pub returns-in-Err-clause-rising : goal.returns-in-Err-clause-rising
returns-in-Err-clause-rising c =
    let g = rw (c.as_slice.ensures.value, c.text.ensures.text) at c.in-Err.ensures in
    rw c.insert_at.ensures (IsRising-placed _ _ _ _ c.requires.rising g)

pub returns-in-Err-clause-held : goal.returns-in-Err-clause-held
returns-in-Err-clause-held c =
    let g = rw (c.as_slice.ensures.value, c.text.ensures.text) at c.in-Err.ensures in
    rw c.insert_at.ensures (held-placed _ _ _ _ g)

pub returns-in-Err-clause-before : goal.returns-in-Err-clause-before
returns-in-Err-clause-before c =
    let g = rw (c.as_slice.ensures.value, c.text.ensures.text) at c.in-Err.ensures in
    sym (held-missing _ _ _ g)
