use Rattle.std.proofs.Common.{◌≡◌, map, take}
use Rattle.dep_atom.specs.Values.{atom_value}
use Rattle.merge_groups.specs.Binds.{bind_of}
use Rattle.merge_groups.proofs.binding.each_bind.Given as goal

abbrev pub invariant-loop-leaf : goal.invariant-loop-leaf
invariant-loop-leaf l =
    l.binds.items ≡ map (bind_of (map (λ p. p.now) l.beside.packages.now) l.asker) (map (λ leaf. atom_value leaf.now) (take l.leaf-index l.leaves))
