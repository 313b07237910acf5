use Rattle.std.proofs.Common.{ℕ, List}
use Rattle.pkg_state.specs.Eapis.{empty_holds}
use Rattle.vdb_law.specs.Fields.{needs_text}
use Rattle.vdb_record.specs.Texts.{value}
use Rattle.vdb_record.proofs.Encoded.{needs_utf8, not_utf8}
use Rattle.vdb_record.proofs.values.needs_of.Goals as goal

pub returns-in_err-value-clause-only : goal.returns-in_err-value-clause-only
returns-in_err-value-clause-only c x writes =
    let text : List ℕ = needs_text c.args.edition c.args.class (value c.args.text.now) in
    absurd (not_utf8 text c.in_err-value.ensures.fault.0 c.in_err-value.ensures.fault.2 (needs_utf8 (empty_holds c.args.edition) text x writes))
