use Rattle.std.proofs.Common.{◌≡◌, ◌≤◌, drop}
use Rattle.std.specs.Prelude.{IsTrue}
use Rattle.merge_core.specs.Recovery.{with_removed}
use Rattle.recovery.proofs.Asked.{AskedOn}
use Rattle.recovery.proofs.changes.remove_all.Given as goal

abbrev pub invariant-loop-path : goal.invariant-loop-path
invariant-loop-path g l =
    (IsTrue g.T.Tree.tells → with_removed (drop l.path-index l.removals) (g.T.Tree.story l.tree).now ≡ with_removed l.removals (g.T.Tree.story l.fn.tree).now)
    × (g.T.Tree.faults l.fn.tree ≤ g.T.Tree.faults l.tree)
    × (IsTrue g.T.Tree.tells → AskedOn l.removals l.path-index (g.T.Tree.story l.fn.tree) (g.T.Tree.story l.tree))
