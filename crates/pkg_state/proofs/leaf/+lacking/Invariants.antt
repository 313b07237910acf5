use Rattle.std.proofs.Common.{◌≡◌, drop}
use Rattle.pms_names.specs.Flags.{has}
use Rattle.dep_tree.specs.Truth.{is_fact}
use Rattle.dep_tree.specs.View.{trees_view}
use Rattle.pkg_state.specs.Fault.{lacking_of_all, lacking_of_first}
use Rattle.pkg_state.proofs.leaf.+lacking.Given as goal

abbrev pub invariant-lacking_of_all-loop-node : goal.invariant-lacking_of_all-loop-node
invariant-lacking_of_all-loop-node g l = lacking_of_all l.empty_holds (is_fact (g.P.Present.facts l.present) l.asker) (has l.asker) (trees_view (drop l.node-index l.nodes)) ≡ lacking_of_all l.empty_holds (is_fact (g.P.Present.facts l.present) l.asker) (has l.asker) (trees_view l.nodes)

abbrev pub invariant-lacking_of_first-loop-node : goal.invariant-lacking_of_first-loop-node
invariant-lacking_of_first-loop-node g l = lacking_of_first l.empty_holds (is_fact (g.P.Present.facts l.present) l.asker) (has l.asker) (trees_view (drop l.node-index l.nodes)) ≡ lacking_of_first l.empty_holds (is_fact (g.P.Present.facts l.present) l.asker) (has l.asker) (trees_view l.nodes)
