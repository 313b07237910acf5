use Rattle.std.proofs.Common.{◌≡◌, map, take}
use Rattle.dep_atom.specs.Values.{atom_value}
use Rattle.emerge_find.specs.Unmerges.{matched}
use Rattle.emerge_find.proofs.unmerge.matched.Given as goal

abbrev pub invariant-loop-package : goal.invariant-loop-package
invariant-loop-package l = map (λ p. p.now) l.some.items ≡ matched (map atom_value l.atoms) (take l.package-index l.packages)
