use Rattle.std.proofs.Common.{◌∙◌, sym}
use Rattle.std.proofs.lemmas.Result.{IfOk-weaker}
use Rattle.emerge_find.proofs.Missed.{refused_text}
use Rattle.emerge_find.proofs.source.parsed.Goals as goal

pub returns-in-Ok-clause-form : goal.returns-in-Ok-clause-form
returns-in-Ok-clause-form c = IfOk-weaker c.parse.result _ _ (λ p is. is.0) c.parse.ensures.found

pub returns-in-Ok-clause-text : goal.returns-in-Ok-clause-text
returns-in-Ok-clause-text c = IfOk-weaker c.parse.result _ _ (λ p is. sym c.in-Ok.ensures.text ∙ is.1) c.parse.ensures.found

pub returns-in-Ok-clause-fault : goal.returns-in-Ok-clause-fault
returns-in-Ok-clause-fault c = refused_text c.in-Ok.text.now c.args.bytes.now c.in-Ok.ensures.text c.in-Ok.ensures.utf8 c.parse.result c.parse.ensures.fault
