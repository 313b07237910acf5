use Rattle.std.proofs.Common.{◌∙◌, sym}
use Rattle.std.proofs.lemmas.Str.{IsUtf8-from_is_utf8}
use Rattle.vdb_contents.proofs.Lines.{target_is_text}
use Rattle.vdb_contents.proofs.line.target_from.Goals as goal

pub returns-in-Err : goal.returns-in-Err
returns-in-Err c =
    absurd (c.in-Err.ensures.cases.0 (IsUtf8-from_is_utf8 c.args.text.now (target_is_text c.args.text.now (sym c.is_target.ensures ∙ c.if-not-is_target.false))))
