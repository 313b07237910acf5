use Rattle.std.proofs.Common.{◌≡◌, ◌≤◌, take}
use Rattle.std.specs.Prelude.{IsTrue}
use Rattle.run_turns.specs.Held.{HoldOwned, holdings_of}
use Rattle.run_turns.proofs.holding.held_paths.Given as goal

abbrev pub invariant-loop-package : goal.invariant-loop-package
invariant-loop-package g l =
    (IsTrue g.T.Tree.tells → HoldOwned (g.T.Tree.story l.fn.tree).now.holds (take l.package-index l.installed) l.plan (holdings_of l.held))
    × (IsTrue g.T.Tree.tells → g.T.Tree.story l.tree ≡ g.T.Tree.story l.fn.tree)
    × (g.T.Tree.faults l.fn.tree ≤ g.T.Tree.faults l.tree)
