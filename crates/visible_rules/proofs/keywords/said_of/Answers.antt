use Rattle.visible_rules.proofs.Hearing.{all_heard}
use Rattle.visible_rules.proofs.keywords.said_of.Goals as goal

pub returns : goal.returns
returns c =
    all_heard c.loop-line.said c.args.bare.now c.args.facts.now c.get-line-items.result.now c.loop-line.line-index c.args.named.now.lists c.text.result.now c.loop-line-test.false c.get-line-items.ensures c.text.ensures.text c.loop-line.invariant
