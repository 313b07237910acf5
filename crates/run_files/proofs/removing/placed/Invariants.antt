use Rattle.std.proofs.Common.{map, take}
use Rattle.merge_group.specs.Working.{all_of}
use Rattle.merge_fit.specs.Images.{path_of}
use Rattle.file_tree.specs.PathSets.{HasSame}
use Rattle.run_files.proofs.removing.placed.Given as goal

abbrev pub invariant-loop-one : goal.invariant-loop-one
invariant-loop-one l = HasSame l.taken (map path_of (all_of (take l.one-index l.files)))
