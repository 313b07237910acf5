use Rattle.owner_book.proofs.Single.{free_is_taken, one}
use Rattle.owner_book.proofs.book.one_refusal.Goals as goal

pub returns : goal.returns
returns c = record { once = one; none = free_is_taken }
