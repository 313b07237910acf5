use Rattle.config_text.proofs.PartLemmas.{backslash_piece, escaped_piece}
use Rattle.config_text.proofs.part.behind_backslash.Goals as goal

pub returns-in-Some : goal.returns-in-Some
returns-in-Some c = escaped_piece c.args.text.now c.in-Some.rest.now c.in-Some.byte c.escaped_piece.result c.in-Some.ensures c.escaped_piece.ensures

pub returns-in-None : goal.returns-in-None
returns-in-None c = backslash_piece c.args.text.now c.in-None.ensures
