use Rattle.dep_group.proofs.TokenLemmas.{unknown-when}
use Rattle.dep_group.proofs.text.condition.Goals as goal

pub returns-in-None : goal.returns-in-None
returns-in-None g c =
    unknown-when g.N.Node.grammar c.args.word.now c.flag_of.result.now c.args.on c.requires c.flag_of.ensures (rw c.in-None.is at c.in_ok-flag.ensures)
