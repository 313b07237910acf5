use Rattle.std.proofs.Common.{◌≡◌, drop, map}
use Rattle.dep_atom.specs.Values.{atom_value}
use Rattle.emerge_find.specs.Unmerges.{is_matched}
use Rattle.emerge_find.proofs.unmerge.is_matched.Given as goal

abbrev pub invariant-loop-atom : goal.invariant-loop-atom
invariant-loop-atom l = is_matched (map atom_value (drop l.atom-index l.atoms)) l.pkg ≡ is_matched (map atom_value l.atoms) l.pkg
