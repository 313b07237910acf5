use Rattle.std.proofs.Common.{◌≡◌, drop}
use Rattle.dep_group.specs.Trees.{has_member}
use Rattle.pms_names.specs.Flags.{has}
use Rattle.dep_tree.specs.Truth.{kind}
use Rattle.dep_tree.specs.View.{trees_view}
use Rattle.dep_tree.proofs.tree.has_member.Given as goal

abbrev pub invariant-loop-node : goal.invariant-loop-node
invariant-loop-node l = has_member kind (has l.asker) (trees_view (drop l.node-index l.nodes)) ≡ has_member kind (has l.asker) (trees_view l.nodes)
