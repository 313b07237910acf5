-- The line files so far lead to what is configured.
use Rattle.std.proofs.Common.{◌≡◌, ◌≤◌, take}
use Rattle.std.specs.Prelude.{IsTrue}
use Rattle.profile_lines.specs.Chains.{Chain}
use Rattle.profile_stack.specs.Files.{ReadsFile, configured}
use Rattle.profile_stack.proofs.line_file.read_line_files.Given as goal

abbrev pub invariant-loop-file : goal.invariant-loop-file
invariant-loop-file g l =
    (IsTrue g.T.Tree.tells → Chain (ReadsFile (g.T.Tree.story l.fn.tree).now.holds) (take l.file-index l.file-items) (configured l.fn.config) (configured l.config))
    × (IsTrue g.T.Tree.tells → g.T.Tree.story l.tree ≡ g.T.Tree.story l.fn.tree)
    × (g.T.Tree.faults l.fn.tree ≤ g.T.Tree.faults l.tree)
