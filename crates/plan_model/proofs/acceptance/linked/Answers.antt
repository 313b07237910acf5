use Rattle.plan_text.specs.Plans.{plan_value}
use Rattle.plan_model.proofs.acceptance.linked.Goals as goal

pub returns-in-Err-clause-fault : goal.returns-in-Err-clause-fault
returns-in-Err-clause-fault c = λ installed. c.of_link.ensures.breaks installed c.args.offered.now (plan_value c.args.text.now) c.in-Err.ensures.fault
