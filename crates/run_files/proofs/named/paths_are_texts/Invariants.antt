use Rattle.std.proofs.Common.{take}
use Rattle.std.specs.List.{AllByRecursion}
use Rattle.file_tree.specs.Paths.{IsPathText}
use Rattle.run_files.proofs.named.paths_are_texts.Given as goal

abbrev pub invariant-loop-entry : goal.invariant-loop-entry
invariant-loop-entry l = AllByRecursion (λ e. IsPathText e.path) (take l.entry-index l.image)
