-- The packages so far are those of the folders so far, and begin each list of all.
use Rattle.std.proofs.Common.{◌≡◌, ◌≤◌, List, drop, take}
use Rattle.std.specs.Prelude.{IsTrue}
use Rattle.vdb_law.specs.Packages.{Installed}
use Rattle.vdb_text.specs.Telling.{TellAll}
use Rattle.vdb_text.proofs.Steps.{GoesOn}
use Rattle.vdb_text.proofs.database.read_packages.Given as goal

abbrev pub invariant-loop-folder : goal.invariant-loop-folder
invariant-loop-folder g l =
    (IsTrue g.T.Tree.tells → TellAll (g.T.Tree.story l.fn.tree).now.holds (take l.folder-index l.folders) l.packages.items)
    × (IsTrue g.T.Tree.tells → (ps : List Installed) → TellAll (g.T.Tree.story l.fn.tree).now.holds l.folders ps →
    GoesOn (g.T.Tree.story l.fn.tree).now.holds (drop l.folder-index l.folders) l.packages.items ps)
    × (IsTrue g.T.Tree.tells → g.T.Tree.story l.tree ≡ g.T.Tree.story l.fn.tree)
    × (g.T.Tree.faults l.fn.tree ≤ g.T.Tree.faults l.tree)
