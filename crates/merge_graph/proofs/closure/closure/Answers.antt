use Rattle.std.proofs.Common.{ap, map, refl}
use Rattle.merge_graph.proofs.Closing.{closed_more, closed_none}
use Rattle.merge_graph.proofs.closure.closure.Goals as goal

pub loop-edge-init : goal.loop-edge-init
loop-edge-init c = closed_none c.args.nodes _ c.in_ok-rows.ensures

pub loop-edge-preserved : goal.loop-edge-preserved
loop-edge-preserved c =
    closed_more c.args.nodes c.args.edges.now c.loop-edge.edge-index _ _ _ _ _ _ c.requires c.loop-edge-test.true refl refl c.loop-edge.invariant (ap (map (λ r. r.items)) c.deref.ensures.value) c.in_ok-rows-2.ensures
