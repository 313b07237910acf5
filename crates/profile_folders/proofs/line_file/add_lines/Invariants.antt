-- The lines so far stand behind the others.
use Rattle.std.proofs.Common.{◌≡◌, ◌++◌, map, take}
use Rattle.profile_folders.specs.LineFiles.{file_line}
use Rattle.profile_folders.proofs.line_file.add_lines.Given as goal

abbrev pub invariant-loop-line : goal.invariant-loop-line
invariant-loop-line g l = l.all.items ≡ l.initial.all.items ++ map (file_line l.file) (take l.line-index l.line-items)
