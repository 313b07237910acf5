use Rattle.std.proofs.Common.{◌≡◌, ◌∙◌, ap, arith, map, take}
use Rattle.std.proofs.lemmas.Grind.{common_steps}
use Rattle.dep_tree.specs.View.{view}
use Rattle.vdb_law.specs.Fields.{tree_bound}
use Rattle.vdb_values.proofs.Bound.{all_bound_if}
use Rattle.vdb_values.proofs.needs.+bound.Goals as goal

pub bound_all-returns : goal.bound_all-returns
bound_all-returns t c =
    let whole : take c.loop-node.node-index c.args.nodes.now ≡ c.args.nodes.now = grind (arith, common_steps) in
    all_bound_if c.loop-node.copies.items c.args.nodes.now (c.loop-node.invariant ∙ ap (map (λ n. tree_bound (view n))) whole)
