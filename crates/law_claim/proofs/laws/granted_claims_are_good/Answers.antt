use Rattle.law_claim.proofs.Granted.{granted_claims_are_good}
use Rattle.law_claim.proofs.laws.granted_claims_are_good.Goals as goal

pub returns : goal.returns
returns c = granted_claims_are_good
