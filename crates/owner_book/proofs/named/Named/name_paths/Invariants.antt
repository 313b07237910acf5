use Rattle.std.proofs.Common.{◌≡◌, ℕ, List, take, true}
use Rattle.file_tree.specs.PathSets.{is_in}
use Rattle.owner_book.specs.Named.{is_named}
use Rattle.owner_book.proofs.named.Named.name_paths.Given as goal

abbrev pub invariant-loop-path : goal.invariant-loop-path
invariant-loop-path l =
    ((q : List ℕ) → is_in (take l.path-index l.paths) q ≡ true → is_named l.self l.owner.number q ≡ true)
    × ((n : ℕ) (q : List ℕ) → is_named l.fn.self n q ≡ true → is_named l.self n q ≡ true)
