use Rattle.plan_text.proofs.Whole.{one_text}
use Rattle.plan_text.proofs.laws.one_plan.Goals as goal

pub returns : goal.returns
returns c = one_text
