use Rattle.std.proofs.Common.{◌≡◌, ◌≤◌, take}
use Rattle.std.specs.Prelude.{IsTrue}
use Rattle.run_opening.specs.Rows.{AreRows}
use Rattle.run_opening.proofs.owners.rows_of.Given as goal

abbrev pub invariant-loop-place : goal.invariant-loop-place
invariant-loop-place g l =
    (IsTrue g.T.Tree.tells → AreRows (g.T.Tree.story l.fn.tree).now.holds 0 (take l.place l.packages) l.rows.items)
    × (IsTrue g.T.Tree.tells → g.T.Tree.story l.tree ≡ g.T.Tree.story l.fn.tree)
    × (g.T.Tree.faults l.fn.tree ≤ g.T.Tree.faults l.tree)
