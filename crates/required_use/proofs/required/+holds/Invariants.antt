use Rattle.std.proofs.Common.{◌≡◌, ◌+◌, ◌≤◌, drop}
use Rattle.dep_group.specs.Trees.{all_hold, true_members}
use Rattle.pms_names.specs.Flags.{has}
use Rattle.required_use.specs.Grammar.{is_on, kind}
use Rattle.required_use.specs.View.{trees_view}
use Rattle.required_use.proofs.required.+holds.Given as goal

abbrev pub invariant-all_hold-loop-node : goal.invariant-all_hold-loop-node
invariant-all_hold-loop-node l = all_hold l.empty_holds kind (is_on (has l.enabled)) (has l.enabled) (trees_view (drop l.node-index l.nodes)) ≡ all_hold l.empty_holds kind (is_on (has l.enabled)) (has l.enabled) (trees_view l.nodes)

abbrev pub invariant-true_members-loop-node : goal.invariant-true_members-loop-node
invariant-true_members-loop-node l = record {
  few : l.count ≤ l.node-index;
  same : l.count + true_members l.empty_holds kind (is_on (has l.enabled)) (has l.enabled) (trees_view (drop l.node-index l.nodes)) ≡ true_members l.empty_holds kind (is_on (has l.enabled)) (has l.enabled) (trees_view l.nodes);
}
