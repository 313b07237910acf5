use Rattle.law_claim.proofs.Turns.{granted_lines_are_apart}
use Rattle.law_claim.proofs.laws.granted_lines_are_apart.Goals as goal

pub returns : goal.returns
returns c = granted_lines_are_apart
