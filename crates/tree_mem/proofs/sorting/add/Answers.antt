use Rattle.std.proofs.Common.{refl, subst, sym}
use Rattle.std.specs.Prelude.{IsSome}
use Rattle.tree_mem.proofs.Held.{held-found, held-missing, held-placed, IsRising-placed}
use Rattle.tree_mem.proofs.sorting.add.Goals as goal

pub returns-in-Ok-clause-fault : goal.returns-in-Ok-clause-fault
returns-in-Ok-clause-fault c =
    let s = rw (c.as_slice.ensures.value, c.text.ensures.text) at c.in-Ok.ensures in
    (refl, subst IsSome (sym (held-found _ _ _ c.requires.rising s)) refl)

pub returns-in_ok-insert-in-Err-clause-rising : goal.returns-in_ok-insert-in-Err-clause-rising
returns-in_ok-insert-in-Err-clause-rising c =
    let g = rw (c.as_slice.ensures.value, c.text.ensures.text) at c.in-Err.ensures in
    rw c.in_ok-insert-in-Err.ensures.items (IsRising-placed _ _ _ _ c.requires.rising g)

pub returns-in_ok-insert-in-Err-clause-fresh : goal.returns-in_ok-insert-in-Err-clause-fresh
returns-in_ok-insert-in-Err-clause-fresh c =
    let g = rw (c.as_slice.ensures.value, c.text.ensures.text) at c.in-Err.ensures in
    held-missing _ _ _ g

pub returns-in_ok-insert-in-Err-clause-held : goal.returns-in_ok-insert-in-Err-clause-held
returns-in_ok-insert-in-Err-clause-held c =
    let g = rw (c.as_slice.ensures.value, c.text.ensures.text) at c.in-Err.ensures in
    rw c.in_ok-insert-in-Err.ensures.items (held-placed _ _ _ _ g)
