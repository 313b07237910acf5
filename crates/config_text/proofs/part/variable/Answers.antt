use Rattle.config_text.proofs.PartLemmas.{braced_variable, named_variable}
use Rattle.config_text.proofs.part.variable.Goals as goal

pub returns-in-Some : goal.returns-in-Some
returns-in-Some c = braced_variable c.args.text.now c.in-Some.inner.now c.key_before.result c.in-Some.ensures c.key_before.ensures

pub returns-in-None : goal.returns-in-None
returns-in-None c = named_variable c.args.text.now c.split_name.result c.in-None.ensures c.split_name.ensures
