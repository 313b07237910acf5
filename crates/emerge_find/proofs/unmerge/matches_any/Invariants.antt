use Rattle.std.proofs.Common.{◌≡◌, drop}
use Rattle.std.specs.List.{list_any}
use Rattle.dep_atom.specs.Values.{atom_value}
use Rattle.emerge_choose.specs.Wishes.{is_match}
use Rattle.emerge_find.proofs.unmerge.matches_any.Given as goal

abbrev pub invariant-loop-package : goal.invariant-loop-package
invariant-loop-package l = list_any (is_match (atom_value l.atom)) (drop l.package-index l.packages) ≡ list_any (is_match (atom_value l.atom)) l.packages
