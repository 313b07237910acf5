use Rattle.pms_grammar.proofs.Unique.{spelled_once}
use Rattle.pms_grammar.proofs.recognise.one_spelling.Goals as goal

pub returns : goal.returns
returns c = spelled_once
