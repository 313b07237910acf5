-- Each of the paths so far is one.
use Rattle.std.proofs.Common.{◌≡◌, take, true}
use Rattle.std.specs.List.{AllByRecursion}
use Rattle.file_tree.specs.Paths.{is_path}
use Rattle.vdb_text.proofs.folders.are_paths.Given as goal

abbrev pub invariant-loop-path : goal.invariant-loop-path
invariant-loop-path l = AllByRecursion (λ p. is_path p ≡ true) (take l.path-index l.listed)
