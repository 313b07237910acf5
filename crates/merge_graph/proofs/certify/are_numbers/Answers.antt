use Rattle.merge_graph.proofs.Together.{certified}
use Rattle.merge_graph.proofs.certify.are_numbers.Goals as goal

pub returns : goal.returns
returns c = λ on.
    certified c.args.nodes c.args.edges.now c.args.numbers.now c.args.firsts.now c.requires
    (c.are_named.ensures.all c.if-not-are_named.false)
    (c.are_named.ensures.firsts c.if-not-are_named.false)
    (c.are_named.ensures.named c.if-not-are_named.false)
    (c.in_ok-are_components.ensures c.if-not-branch.false)
    (c.in_ok-in_order.ensures on)
