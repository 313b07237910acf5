use Rattle.std.proofs.Common.{take}
use Rattle.owner_book.specs.Going.{is_among}
use Rattle.owner_book.specs.Removing.{AreRemovable}
use Rattle.owner_book.proofs.book.OwnerBook.first_kept.Given as goal

abbrev pub invariant-loop-path : goal.invariant-loop-path
invariant-loop-path l = AreRemovable l.self (is_among l.going) (take l.path-index l.paths)
