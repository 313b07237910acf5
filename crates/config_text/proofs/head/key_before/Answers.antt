use Rattle.config_text.proofs.PartLemmas.{key_lacks}
use Rattle.config_text.proofs.head.key_before.Goals as goal

pub returns-in_err-rest : goal.returns-in_err-rest
returns-in_err-rest c = rw c.from_residual-in_err-rest.ensures (key_lacks c.args.byte c.args.text.now c.in_ok-key.key.now c.in_ok-key.rest.now c.requires c.in_ok-key.ensures c.in_err-rest.ensures)
