use Rattle.std.proofs.Common.{◌≡◌, ℕ, List, Some, take, true}
use Rattle.merge_record.specs.declared.record.OwnerKey.{OwnerKey}
use Rattle.owner_book.specs.Book.{key_in}
use Rattle.owner_book.specs.Named.{is_named}
use Rattle.owner_book.proofs.named.Named.name_all.Given as goal

abbrev pub invariant-loop-wish : goal.invariant-loop-wish
invariant-loop-wish l =
    ((q : List ℕ) (k : OwnerKey) → key_in (take l.wish-index l.placed) q ≡ Some k → is_named l.self k.number q ≡ true)
    × ((n : ℕ) (q : List ℕ) → is_named l.fn.self n q ≡ true → is_named l.self n q ≡ true)
