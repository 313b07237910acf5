use Rattle.dep_atom.proofs.Cuts.{lacks_before, lacks_whole}
use Rattle.dep_atom.proofs.reading.split_before.Goals as goal

pub returns-in-Some-clause-lacks : goal.returns-in-Some-clause-lacks
returns-in-Some-clause-lacks c = rw c.split_at.ensures.front (lacks_before c.args.one c.args.other c.args.text.now c.in-Some.at c.in-Some.ensures.before)

pub returns-in-None-clause-lacks : goal.returns-in-None-clause-lacks
returns-in-None-clause-lacks c = rw c.split_at-in-None.ensures.front (lacks_whole c.args.one c.args.other c.args.text.now c.in-None.ensures.none)
