use Rattle.std.proofs.Common.{◌≡◌, ◌≤◌}
use Rattle.std.specs.Prelude.{IsTrue}
use Rattle.merge_fit.proofs.Ways.{NoneBefore}
use Rattle.merge_fit.proofs.blocks.block_of.Given as goal

abbrev pub invariant-loop-at : goal.invariant-loop-at
invariant-loop-at g l =
    (IsTrue g.T.Tree.tells → g.T.Tree.story l.tree ≡ g.T.Tree.story l.fn.tree)
    × (IsTrue g.T.Tree.tells → NoneBefore (g.T.Tree.story l.fn.tree).now.holds l.path l.at)
    × (g.T.Tree.faults l.fn.tree ≤ g.T.Tree.faults l.tree)
