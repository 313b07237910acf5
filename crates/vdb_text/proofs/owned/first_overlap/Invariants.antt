-- The paths of the packages so far were given to the index.
use Rattle.std.proofs.Common.{take}
use Rattle.vdb_overlap.specs.Indexes.{IsSeen}
use Rattle.vdb_text.specs.Owned.{all_paths}
use Rattle.vdb_text.proofs.owned.first_overlap.Given as goal

abbrev pub invariant-loop-package : goal.invariant-loop-package
invariant-loop-package l = IsSeen (all_paths (take l.package-index l.packages)) l.index
