-- The line files so far lead to what the profile says.
use Rattle.std.proofs.Common.{◌≡◌, ◌≤◌, take}
use Rattle.std.specs.Prelude.{IsTrue}
use Rattle.profile_lines.specs.Chains.{Chain}
use Rattle.profile_lines.specs.Files.{ReadsFile, content}
use Rattle.profile_lines.proofs.folder.read_line_files.Given as goal

abbrev pub invariant-loop-file : goal.invariant-loop-file
invariant-loop-file g l =
    (IsTrue g.T.Tree.tells → Chain (ReadsFile (g.T.Tree.story l.fn.tree).now.holds l.folder) (take l.file-index l.file-items) (content l.fn.profile) (content l.profile))
    × (IsTrue g.T.Tree.tells → g.T.Tree.story l.tree ≡ g.T.Tree.story l.fn.tree)
    × (g.T.Tree.faults l.fn.tree ≤ g.T.Tree.faults l.tree)
