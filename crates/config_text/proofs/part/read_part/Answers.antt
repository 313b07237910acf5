use Rattle.config_text.proofs.PartLemmas.{gives_part}
use Rattle.config_text.proofs.part.read_part.Goals as goal

pub returns : goal.returns
returns c = gives_part c.args.quoted _ c.args.text.now c.next_piece.result.1.now c.args.value.now.items c.give.new.value.items _ c.next_piece.ensures c.in_ok-give.ensures
