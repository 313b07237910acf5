use Rattle.plan_model.proofs.Coming.{flags_put}
use Rattle.plan_model.proofs.flags.flags_on.Goals as goal

pub returns : goal.returns
returns c = flags_put c.args.text.now c.args.implicit.now c.loop-flag.on (rw c.in-None.ensures.steps.0 at c.loop-flag.invariant) c.list-listed.ensures.rising
