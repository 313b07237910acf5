use Rattle.std.proofs.Common.{◌≡◌, ◌++◌, drop, map}
use Rattle.dep_atom.specs.Values.{atom_value}
use Rattle.pms_names.specs.Flags.{has}
use Rattle.dep_tree.specs.Truth.{is_fact}
use Rattle.dep_tree.specs.View.{trees_view}
use Rattle.merge_edges.specs.Needs.{needed_of_all, needed_of_first}
use Rattle.merge_edges.proofs.needs.+needed.Given as goal

abbrev pub invariant-push_of_all-loop-node : goal.invariant-push_of_all-loop-node
invariant-push_of_all-loop-node g l = map (λ atom. atom_value atom.now) l.out.items ++ needed_of_all l.empty_holds (is_fact (g.P.Present.facts l.present) l.asker) (has l.asker) (trees_view (drop l.node-index l.nodes)) ≡ map (λ atom. atom_value atom.now) l.fn.out.items ++ needed_of_all l.empty_holds (is_fact (g.P.Present.facts l.present) l.asker) (has l.asker) (trees_view l.nodes)

abbrev pub invariant-push_of_first-loop-node : goal.invariant-push_of_first-loop-node
invariant-push_of_first-loop-node g l = map (λ atom. atom_value atom.now) l.out.items ++ needed_of_first l.empty_holds (is_fact (g.P.Present.facts l.present) l.asker) (has l.asker) (trees_view (drop l.node-index l.nodes)) ≡ map (λ atom. atom_value atom.now) l.fn.out.items ++ needed_of_first l.empty_holds (is_fact (g.P.Present.facts l.present) l.asker) (has l.asker) (trees_view l.nodes)
