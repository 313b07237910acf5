use Rattle.std.proofs.Common.{◌≡◌, drop, map}
use Rattle.dep_atom.specs.Values.{atom_value}
use Rattle.emerge_find.specs.Unmerges.{first_unmatched}
use Rattle.emerge_find.proofs.unmerge.first_unmatched.Given as goal

abbrev pub invariant-loop-atom : goal.invariant-loop-atom
invariant-loop-atom l = first_unmatched (map atom_value (drop l.atom-index l.atoms)) l.packages ≡ first_unmatched (map atom_value l.atoms) l.packages
