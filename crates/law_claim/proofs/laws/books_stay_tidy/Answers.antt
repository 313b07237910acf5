use Rattle.law_claim.proofs.Tidy.{books_stay_tidy}
use Rattle.law_claim.proofs.laws.books_stay_tidy.Goals as goal

pub returns : goal.returns
returns c = books_stay_tidy
