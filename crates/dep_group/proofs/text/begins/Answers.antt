use Rattle.dep_group.proofs.TextLemmas.{begins-token}
use Rattle.dep_group.proofs.TokenLemmas.{unknown-counts}
use Rattle.dep_group.proofs.text.begins.Goals as goal

pub returns-in-Some : goal.returns-in-Some
returns-in-Some g c = λ word text shape. begins-token g.N.Node.grammar word c.args.opener _ c.in-Some.ensures.0 c.in-Some.ensures.1 text shape

pub returns-in-None : goal.returns-in-None
returns-in-None g c = λ word text shape. unknown-counts g.N.Node.grammar word c.args.opener shape text c.in-None.ensures
