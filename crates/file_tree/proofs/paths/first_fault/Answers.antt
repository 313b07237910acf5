use Rattle.std.proofs.Common.{◌≡◌, length, ◌∙◌, sym}
use Rattle.std.proofs.lemmas.Bool.{eqb-true}
use Rattle.file_tree.proofs.Grammar.{no_path_if_empty, no_path_if_long}
use Rattle.file_tree.proofs.paths.first_fault.Goals as goal

pub returns-then-is_empty : goal.returns-then-is_empty
returns-then-is_empty c =
    let empty : length c.args.bytes.now ≡ 0 = eqb-true _ _ (sym c.is_empty.ensures ∙ c.if-is_empty.true) in
    (no_path_if_empty c.args.bytes.now empty, empty)

pub returns-then-bytes-gt-MOST_PATH_BYTES : goal.returns-then-bytes-gt-MOST_PATH_BYTES
returns-then-bytes-gt-MOST_PATH_BYTES c = (no_path_if_long c.args.bytes.now c.if-bytes-gt-MOST_PATH_BYTES.true, c.if-bytes-gt-MOST_PATH_BYTES.true)
