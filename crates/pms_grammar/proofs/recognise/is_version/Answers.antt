use Rattle.pms_grammar.proofs.Stops.{tells}
use Rattle.pms_grammar.proofs.recognise.is_version.Goals as goal

pub returns : goal.returns
returns c = tells c.args.bytes.now c.version_stop.result c.is_none.result c.version_stop.ensures.version c.version_stop.ensures.stop c.is_none.ensures
