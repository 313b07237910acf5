use Rattle.std.proofs.lemmas.Str.{IsUtf8-from_is_utf8}
use Rattle.run_files.proofs.owned.content_of_link.Goals as goal

pub returns-in-Err : goal.returns-in-Err
returns-in-Err c text = absurd (c.in-Err.ensures.cases.0 (IsUtf8-from_is_utf8 c.args.target.now text))
