use Rattle.std.proofs.Common.{None}
use Rattle.choice_universe.proofs.Filled.{changes}
use Rattle.choice_universe.proofs.filling.take_offer.Goals as goal

pub returns-in-Some-clause-others : goal.returns-in-Some-clause-others
returns-in-Some-clause-others c = changes c.args.line.now c.args.offers.now.entries c.remove.new.self.entries None c.remove.ensures.updates.0

pub returns-in-None-clause-others : goal.returns-in-None-clause-others
returns-in-None-clause-others c = changes c.args.line.now c.args.offers.now.entries c.remove.new.self.entries None c.remove.ensures.updates.0
