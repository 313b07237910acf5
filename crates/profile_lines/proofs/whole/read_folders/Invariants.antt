-- The folders so far lead to what the profile says.
use Rattle.std.proofs.Common.{◌≡◌, ◌≤◌, take}
use Rattle.std.specs.Prelude.{IsTrue}
use Rattle.profile_lines.specs.Chains.{Chain}
use Rattle.profile_lines.specs.Files.{ReadsFolder, content}
use Rattle.profile_lines.proofs.whole.read_folders.Given as goal

abbrev pub invariant-loop-folder : goal.invariant-loop-folder
invariant-loop-folder g l =
    (IsTrue g.T.Tree.tells → Chain (ReadsFolder (g.T.Tree.story l.fn.tree).now.holds) (take l.folder-index l.folders) (content l.fn.profile) (content l.profile))
    × (IsTrue g.T.Tree.tells → g.T.Tree.story l.tree ≡ g.T.Tree.story l.fn.tree)
    × (g.T.Tree.faults l.fn.tree ≤ g.T.Tree.faults l.tree)
