use Rattle.required_use.proofs.FaultLemmas.{no_item}
use Rattle.required_use.proofs.parse.item.Goals as goal

pub returns-in-None : goal.returns-in-None
returns-in-None c = no_item c.args.word.now _ _ c.denied-on.ensures (rw c.in-None.is at c.in_ok-flag.ensures)
