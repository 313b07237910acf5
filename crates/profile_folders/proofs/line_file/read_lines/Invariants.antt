-- The lines so far are those of the files so far, which have texts.
use Rattle.std.proofs.Common.{◌≡◌, ◌≤◌, take}
use Rattle.std.specs.Prelude.{IsTrue}
use Rattle.std.specs.List.{AllByRecursion, flat_map}
use Rattle.profile_folders.specs.LineFiles.{HasText, lines_of}
use Rattle.profile_folders.proofs.line_file.read_lines.Given as goal

abbrev pub invariant-loop-file : goal.invariant-loop-file
invariant-loop-file g l =
    (IsTrue g.T.Tree.tells → AllByRecursion (HasText (g.T.Tree.story l.fn.tree).now.holds) (take l.file-index l.file-items))
    × (IsTrue g.T.Tree.tells → l.all.items ≡ flat_map (lines_of (g.T.Tree.story l.fn.tree).now.holds) (take l.file-index l.file-items))
    × (IsTrue g.T.Tree.tells → g.T.Tree.story l.tree ≡ g.T.Tree.story l.fn.tree)
    × (g.T.Tree.faults l.fn.tree ≤ g.T.Tree.faults l.tree)
