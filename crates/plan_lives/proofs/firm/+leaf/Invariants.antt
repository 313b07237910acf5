use Rattle.std.proofs.Common.{Option, drop}
use Rattle.dep_atom.specs.Values.{AtomValue}
use Rattle.dep_tree.specs.View.{trees_view}
use Rattle.pms_names.specs.Flags.{has}
use Rattle.plan_law.specs.Firm.{IsFirm}
use Rattle.plan_lives.specs.Gathered.{Chained}
use Rattle.plan_lives.specs.Leaves.{IsLeafOfAll, IsLeafOfAny}
use Rattle.plan_lives.proofs.firm.+leaf.Given as goal

abbrev pub invariant-leaf_of_nodes-loop-node : goal.invariant-leaf_of_nodes-loop-node
invariant-leaf_of_nodes-loop-node l = (o : Option AtomValue) → IsLeafOfAll (λ t. ¬ IsFirm l.empty_holds (Chained l.index l.stretch l.asker) (has l.asker) t) (has l.asker) (trees_view (drop l.node-index l.nodes)) o → IsLeafOfAll (λ t. ¬ IsFirm l.empty_holds (Chained l.index l.stretch l.asker) (has l.asker) t) (has l.asker) (trees_view l.nodes) o

abbrev pub invariant-leaf_of_any-loop-node : goal.invariant-leaf_of_any-loop-node
invariant-leaf_of_any-loop-node l = (o : Option AtomValue) → IsLeafOfAny (λ t. ¬ IsFirm l.empty_holds (Chained l.index l.stretch l.asker) (has l.asker) t) (has l.asker) (trees_view (drop l.node-index l.nodes)) o → IsLeafOfAny (λ t. ¬ IsFirm l.empty_holds (Chained l.index l.stretch l.asker) (has l.asker) t) (has l.asker) (trees_view l.nodes) o
