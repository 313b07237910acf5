use Rattle.pms_grammar.proofs.Unique.{cut_once}
use Rattle.pms_grammar.proofs.recognise.one_name_and_version.Goals as goal

pub returns : goal.returns
returns c = cut_once
