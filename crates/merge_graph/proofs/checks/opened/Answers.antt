use Rattle.std.proofs.Common.{◌∙◌}
use Rattle.merge_graph.proofs.Checking.{opened_all, opened_more}
use Rattle.merge_graph.proofs.checks.opened.Goals as goal

pub loop-edge-preserved : goal.loop-edge-preserved
loop-edge-preserved c = (
  c.raise.ensures.all ∙ c.loop-edge.invariant.0,
  opened_more c.args.numbers.now c.args.edges.now c.loop-edge.edge-index _ c.loop-edge.opened.items c.raise.new.opened.items _ _ c.loop-edge-test.true c.loop-edge.invariant.1 c.number_at.ensures c.number_at-in-loop-edge.ensures c.raise.ensures.others c.raise.ensures.bound,
)

pub returns-clause-opened : goal.returns-clause-opened
returns-clause-opened c = opened_all c.args.numbers.now c.args.edges.now c.loop-edge.edge-index c.loop-edge.opened.items c.loop-edge-test.false c.loop-edge.invariant.1
