use Rattle.plan_law.proofs.Whole.{accepted_sound}
use Rattle.plan_law.proofs.laws.accepted_plans_are_sound.Goals as goal

pub returns : goal.returns
returns c = accepted_sound
