-- What is known of the paths of files that are let in.
use Rattle.std.proofs.Common.{◌≡◌, ℕ, false, List}
use Rattle.std.proofs.lemmas.Bool.{or_parts}
use Rattle.file_tree.specs.Paths.{is_below}
use Rattle.owner_book.specs.Rules.{is_reserved, touches}
use Rattle.file_tree.specs.Fixed.{own_files}
use Rattle.file_tree.specs.Fixed.{database_path}
use Rattle.vdb_contents.specs.Contents.{meets}

-- a path that an image may have doesn't meet the database
pub let_in_apart : (p : List ℕ) → is_reserved p ≡ false → meets database_path p ≡ false
let_in_apart p free = (or_parts (touches database_path p) (touches own_files p) free).0

-- .. and so is not below it
pub let_in_outside : (p : List ℕ) → is_reserved p ≡ false → is_below database_path p ≡ false
let_in_outside p free =
    let near = or_parts _ _ (let_in_apart p free) in
    (or_parts (is_below database_path p) _ near.1).0
