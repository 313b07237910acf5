use Rattle.config_text.proofs.PartLemmas.{dollar_piece, name_piece}
use Rattle.config_text.proofs.part.behind_dollar.Goals as goal

pub returns-in-Some : goal.returns-in-Some
returns-in-Some c = λ quoted. name_piece c.args.text.now c.in-Some.name c.in-Some.rest.now quoted c.in-Some.ensures

pub returns-in-None : goal.returns-in-None
returns-in-None c = λ quoted. dollar_piece c.args.text.now quoted c.in-None.ensures
