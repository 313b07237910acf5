use Rattle.std.proofs.Common.{◌≡◌, ◌++◌, map}
use Rattle.owner_book.specs.Named.{named_under, owned_among}
use Rattle.owner_book.proofs.Under.{text_of}
use Rattle.owner_book.proofs.owned.owned_paths.Given as goal

abbrev pub invariant-loop-key : goal.invariant-loop-key
invariant-loop-key l = l.paths.items ++ owned_among l.index l.owner (map text_of l.key-iterator) ≡ owned_among l.index l.owner (named_under l.named l.owner.number)
