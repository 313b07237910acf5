use Rattle.std.proofs.Common.{map, take}
use Rattle.std.specs.List.{AllZip}
use Rattle.dep_atom.specs.Values.{atom_value}
use Rattle.plan_lives.specs.Index.{plan_of, start_of}
use Rattle.merge_groups.specs.Written.{IsBindOf}
use Rattle.merge_groups.proofs.beside.each_beside.Given as goal

abbrev pub invariant-loop-leaf : goal.invariant-loop-leaf
invariant-loop-leaf l =
    AllZip (IsBindOf (plan_of l.index) (start_of l.index) l.g l.asker) (take l.leaf-index (map (λ leaf. atom_value leaf.now) l.leaves)) l.binds.items
