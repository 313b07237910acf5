use Rattle.std.proofs.Common.{List, ℕ, map, subst}
use Rattle.dep_group.specs.Words.{words_of}
use Rattle.use_flags.specs.Items.{flag_of}
use Rattle.vdb_law.specs.Fields.{AreFlags}
use Rattle.vdb_record.specs.Texts.{value}
use Rattle.vdb_record.proofs.Encoded.{known_utf8, not_utf8}
use Rattle.vdb_record.proofs.Sets.{one_flags}
use Rattle.vdb_record.proofs.values.known_of.Goals as goal

pub returns-in_err-value-clause-only : goal.returns-in_err-value-clause-only
returns-in_err-value-clause-only c set are =
    absurd (not_utf8 (value c.args.text.now) c.in_err-value.ensures.fault.0 c.in_err-value.ensures.fault.2 (known_utf8 (value c.args.text.now) set are))

pub returns-in-Ok-clause-only : goal.returns-in-Ok-clause-only
returns-in-Ok-clause-only c set are =
    one_flags (map flag_of (words_of (value c.args.text.now))) c.in-Ok.flags set
    (subst (λ (t : List ℕ). AreFlags (map flag_of (words_of t)) c.in-Ok.flags) c.in_ok-value.ensures.text c.in-Ok.ensures.found) are
