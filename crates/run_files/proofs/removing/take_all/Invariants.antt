use Rattle.std.proofs.Common.{◌++◌, map, take}
use Rattle.merge_fit.specs.Images.{path_of}
use Rattle.file_tree.specs.PathSets.{HasSame}
use Rattle.run_files.proofs.removing.take_all.Given as goal

abbrev pub invariant-loop-entry : goal.invariant-loop-entry
invariant-loop-entry l = HasSame l.taken (l.fn.taken ++ map path_of (take l.entry-index l.entries))
