use Rattle.dep_group.proofs.TextLemmas.{leaf-token, no_leaf-token}
use Rattle.dep_group.proofs.text.leaf.Goals as goal

pub returns-in-Some : goal.returns-in-Some
returns-in-Some g c = leaf-token g.N.Node.grammar c.args.word.now _ c.requires (rw c.in-Some.is at c.in_ok-leaf.ensures)

pub returns-in-None : goal.returns-in-None
returns-in-None g c = no_leaf-token g.N.Node.grammar c.args.word.now c.requires (rw c.in-None.is at c.in_ok-leaf.ensures)
