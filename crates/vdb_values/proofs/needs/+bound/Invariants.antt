use Rattle.std.proofs.Common.{◌≡◌, map, take}
use Rattle.dep_tree.specs.View.{view}
use Rattle.vdb_law.specs.Fields.{tree_bound}
use Rattle.vdb_values.proofs.needs.+bound.Given as goal

abbrev pub invariant-bound_all-loop-node : goal.invariant-bound_all-loop-node
invariant-bound_all-loop-node l = map view l.copies.items ≡ map (λ n. tree_bound (view n)) (take l.node-index l.nodes)
