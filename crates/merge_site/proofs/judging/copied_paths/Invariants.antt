use Rattle.std.proofs.Common.{◌≡◌, take}
use Rattle.merge_site.proofs.judging.copied_paths.Given as goal

abbrev pub invariant-loop-path : goal.invariant-loop-path
invariant-loop-path l = l.copies.items ≡ take l.path-index l.paths
