use Rattle.config_text.proofs.PartLemmas.{plain_piece}
use Rattle.config_text.proofs.part.next_piece.Goals as goal

pub returns-in-Nothing : goal.returns-in-Nothing
returns-in-Nothing c = plain_piece c.args.text.now c.in-Some.more.now c.in-Some.byte c.args.quoted c.requires c.in-Some.ensures c.in-Nothing.ensures
