-- The files so far are those of the paths so far.
use Rattle.std.proofs.Common.{◌≡◌, take}
use Rattle.std.specs.Prelude.{filter}
use Rattle.profile_folders.specs.LineFiles.{is_file_in}
use Rattle.profile_folders.proofs.line_file.files_among.Given as goal

abbrev pub invariant-loop-path : goal.invariant-loop-path
invariant-loop-path l = l.files.items ≡ filter (is_file_in l.folder) (take l.path-index l.paths)
