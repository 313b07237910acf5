use Rattle.std.proofs.Common.{◌≡◌, map, take}
use Rattle.dep_tree.specs.View.{view}
use Rattle.dep_tree.proofs.copy.+copy.Given as goal

abbrev pub invariant-copy_all-loop-node : goal.invariant-copy_all-loop-node
invariant-copy_all-loop-node l = map view l.copies.items ≡ map view (take l.node-index l.nodes)
