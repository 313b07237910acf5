use Rattle.std.proofs.Common.{◌≡◌, List, take, ℕ}
use Rattle.file_tree.specs.PathSets.{is_in}
use Rattle.owner_book.specs.Book.{owner_in}
use Rattle.owner_book.specs.Removing.{goes}
use Rattle.owner_book.specs.Rules.{is_dying}
use Rattle.merge_site.specs.Booking.{owned_by}
use Rattle.merge_site.proofs.owned.owned_by.Given as goal

abbrev pub invariant-loop-owner : goal.invariant-loop-owner
invariant-loop-owner l =
    (l.paths.items ≡ owned_by l.book (take l.owner-index l.owners))
    × ((q : List ℕ) → is_in l.paths.items q ≡ goes (is_dying (take l.owner-index l.owners)) (owner_in l.book.owned q))
