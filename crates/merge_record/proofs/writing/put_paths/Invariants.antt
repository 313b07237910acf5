use Rattle.std.proofs.Common.{◌≡◌, ◌++◌, take}
use Rattle.std.specs.List.{AllByRecursion, flat_map}
use Rattle.merge_record.specs.Spelling.{path_text}
use Rattle.file_tree.specs.Paths.{IsPathText}
use Rattle.merge_record.proofs.writing.put_paths.Given as goal

abbrev pub invariant-loop-path : goal.invariant-loop-path
invariant-loop-path l = (l.out.items ≡ l.initial.out.items ++ flat_map path_text (take l.path-index l.paths)) × AllByRecursion IsPathText (take l.path-index l.paths)
