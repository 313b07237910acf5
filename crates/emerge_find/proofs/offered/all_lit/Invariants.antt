-- The copies, and those of the packages that are left, come to those of all packages.
use Rattle.std.proofs.Common.{◌≡◌, ◌++◌, drop}
use Rattle.law_commit.specs.Lit.{packages_of}
use Rattle.emerge_find.proofs.offered.all_lit.Given as goal

abbrev pub invariant-loop-package : goal.invariant-loop-package
invariant-loop-package l = l.copies.items ++ packages_of l.implicit (drop l.package-index l.packages) ≡ packages_of l.implicit l.packages
