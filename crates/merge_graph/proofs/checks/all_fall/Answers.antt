use Rattle.merge_graph.proofs.Checking.{falls_more}
use Rattle.merge_graph.proofs.checks.all_fall.Goals as goal

pub loop-edge-preserved : goal.loop-edge-preserved
loop-edge-preserved c =
    falls_more c.args.numbers.now c.args.edges.now c.loop-edge.edge-index _ _ _ c.loop-edge-test.true c.loop-edge.invariant c.number_at.ensures c.number_at-in-loop-edge.ensures c.if-number_at.false
