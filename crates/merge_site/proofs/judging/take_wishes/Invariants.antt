use Rattle.std.proofs.Common.{map}
use Rattle.owner_book.specs.Book.{path_of}
use Rattle.merge_journal.proofs.Free.{Walk}
use Rattle.merge_site.proofs.judging.take_wishes.Given as goal

abbrev pub invariant-loop-wish : goal.invariant-loop-wish
invariant-loop-wish l = Walk l.initial.taken l.taken (map path_of l.wishes) l.wish-index
