use Rattle.std.proofs.lemmas.Str.{IsUtf8-from_ascii}
use Rattle.pms_names.proofs.Ascii.{IsAscii-from_name_bytes}
use Rattle.pms_names.proofs.name.NameOf.from_bytes.Goals as goal

pub unreachable-requires : goal.unreachable-requires
unreachable-requires g c =
    let name = c.in_default.ensures.none in
    c.in_default-from_utf8.ensures.cases.0 (IsUtf8-from_ascii c.args.bytes.now (IsAscii-from_name_bytes c.kind.result c.args.bytes.now name.spelled.each))
