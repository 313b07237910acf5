use Rattle.std.proofs.Common.{◌∙◌, ap, sym}
use Rattle.std.specs.Str.{is_utf8}
use Rattle.std.proofs.lemmas.Str.{is_utf8-from_IsUtf8}
use Rattle.std.proofs.lemmas.Bool.{and_from, and_left}
use Rattle.file_tree.specs.Paths.{is_path}
use Rattle.file_tree.proofs.Grammar.{is_utf8-false}
use Rattle.file_tree.proofs.paths.path_from.Goals as goal

pub returns-in_default : goal.returns-in_default
returns-in_default c = and_left (is_utf8 c.args.text.now) (is_path c.args.text.now) (is_utf8-false c.args.text.now c.in_default.ensures.cases.0)

pub returns-in-Ok-parse : goal.returns-in-Ok-parse
returns-in-Ok-parse c =
    let text = c.in-Ok.ensures.cases in
    let found = c.in-Ok-parse.ensures.found in
    (found.0 ∙ text.0, and_from _ _ (is_utf8-from_IsUtf8 _ text.1) (ap is_path (sym text.0) ∙ found.1))
