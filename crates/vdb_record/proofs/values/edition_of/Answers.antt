use Rattle.std.proofs.Common.{sym, subst}
use Rattle.std.specs.Str.{IsUtf8}
use Rattle.vdb_record.specs.Texts.{value}
use Rattle.vdb_record.proofs.Encoded.{says_no_eapi}
use Rattle.vdb_record.proofs.values.edition_of.Goals as goal

pub returns-in-Err : goal.returns-in-Err
returns-in-Err c = says_no_eapi (value c.args.text.now) (λ is. c.in-Err.ensures.cases.0 (subst IsUtf8 (sym c.value.ensures) is))
