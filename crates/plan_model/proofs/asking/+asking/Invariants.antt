use Rattle.std.proofs.Common.{◌≡◌, ◌++◌, drop, map}
use Rattle.dep_atom.specs.Values.{atom_value}
use Rattle.pms_names.specs.Flags.{has}
use Rattle.dep_tree.specs.View.{trees_view}
use Rattle.plan_model.specs.Entering.{all_asking_leaves}
use Rattle.plan_model.proofs.asking.+asking.Given as goal

abbrev pub invariant-push_all_leaves-loop-node : goal.invariant-push_all_leaves-loop-node
invariant-push_all_leaves-loop-node l = map (λ atom. atom_value atom.now) l.out.items ++ all_asking_leaves (has l.on) (trees_view (drop l.node-index l.nodes)) ≡ map (λ atom. atom_value atom.now) l.fn.out.items ++ all_asking_leaves (has l.on) (trees_view l.nodes)
