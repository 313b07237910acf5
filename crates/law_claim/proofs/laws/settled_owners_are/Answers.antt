use Rattle.law_claim.proofs.Settled.{settled_owners_are}
use Rattle.law_claim.proofs.laws.settled_owners_are.Goals as goal

pub returns : goal.returns
returns c = settled_owners_are c.one_name_and_version.ensures c.one_spelling.ensures
