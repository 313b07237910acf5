use Rattle.std.proofs.Common.{◌∙◌}
use Rattle.std.proofs.lemmas.Bool.{iff_false}
use Rattle.merge_graph.proofs.Building.{step_in, step_out}
use Rattle.merge_graph.proofs.cycle.first_inside.Goals as goal
use Rattle.merge_graph.proofs.cycle.first_inside.Goals.{then-is_inside, else-is_inside}

pub loop-edge-preserved : goal.loop-edge-preserved
loop-edge-preserved c = elim c.if-is_inside.branch [
  | then-is_inside w ↦ step_in c.args.numbers.now c.args.firsts.now c.args.edges.now c.loop-edge.edge-index _ c.loop-edge.best _ _ _ _ c.loop-edge-test.true c.loop-edge.invariant c.number_at-number.ensures c.number_at.ensures (c.is_inside.ensures.0 w.if-is_inside.true) w.number_at-then-is_inside.ensures (w.best-is ∙ w.smaller-best.ensures)
  | else-is_inside w ↦ step_out c.args.numbers.now c.args.firsts.now c.args.edges.now c.loop-edge.edge-index _ c.loop-edge.best _ _ _ c.loop-edge-test.true c.loop-edge.invariant c.number_at-number.ensures c.number_at.ensures (iff_false c.is_inside.ensures w.if-is_inside.false) w.best-is
]
