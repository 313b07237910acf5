-- As many paths are left as the packages so far leave of the limit.
use Rattle.std.proofs.Common.{◌≡◌, ◌+◌, length, take}
use Rattle.owner_book.specs.declared.limits.TheConstants.{MOST_PATHS}
use Rattle.vdb_text.specs.Owned.{all_paths}
use Rattle.vdb_text.proofs.owned.paths_left.Given as goal

abbrev pub invariant-loop-package : goal.invariant-loop-package
invariant-loop-package l = l.left + length (all_paths (take l.package-index l.packages)) ≡ MOST_PATHS
