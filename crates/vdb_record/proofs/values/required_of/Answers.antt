use Rattle.pkg_state.specs.Eapis.{empty_holds}
use Rattle.vdb_record.specs.Texts.{value}
use Rattle.vdb_record.proofs.Encoded.{required_utf8, not_utf8}
use Rattle.vdb_record.proofs.values.required_of.Goals as goal

pub returns-in_err-value-clause-only : goal.returns-in_err-value-clause-only
returns-in_err-value-clause-only c x writes =
    absurd (not_utf8 (value c.args.text.now) c.in_err-value.ensures.fault.0 c.in_err-value.ensures.fault.2 (required_utf8 (empty_holds c.args.edition) (value c.args.text.now) x writes))
