use Rattle.std.proofs.Common.{bytes_eq, take}
use Rattle.std.specs.List.{list_any}
use Rattle.dep_atom.specs.Values.{atom_value}
use Rattle.choice_tree.specs.Keys.{HasCome}
use Rattle.choice_tree.proofs.keyed.add_leaves.Given as goal

abbrev pub invariant-loop-leaf : goal.invariant-loop-leaf
invariant-loop-leaf l = HasCome l.line (λ text. list_any (λ a. bytes_eq text (atom_value a.now).name.«package») (take l.leaf-index l.leaves)) l.fn.lists l.lists
