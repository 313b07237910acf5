use Rattle.std.proofs.Common.{◌≡◌, drop}
use Rattle.dep_group.specs.Trees.{all_hold, true_members}
use Rattle.pms_names.specs.Flags.{has}
use Rattle.dep_tree.specs.Truth.{is_fact, kind}
use Rattle.dep_tree.specs.View.{trees_view}
use Rattle.dep_tree.proofs.tree.+holds.Given as goal

abbrev pub invariant-all_hold-loop-node : goal.invariant-all_hold-loop-node
invariant-all_hold-loop-node g l = all_hold l.empty_holds kind (is_fact (g.P.Present.facts l.present) l.asker) (has l.asker) (trees_view (drop l.node-index l.nodes)) ≡ all_hold l.empty_holds kind (is_fact (g.P.Present.facts l.present) l.asker) (has l.asker) (trees_view l.nodes)

abbrev pub invariant-some_member_holds-loop-node : goal.invariant-some_member_holds-loop-node
invariant-some_member_holds-loop-node g l = true_members l.empty_holds kind (is_fact (g.P.Present.facts l.present) l.asker) (has l.asker) (trees_view (drop l.node-index l.nodes)) ≡ true_members l.empty_holds kind (is_fact (g.P.Present.facts l.present) l.asker) (has l.asker) (trees_view l.nodes)
