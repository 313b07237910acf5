use Rattle.std.proofs.Common.{◌≡◌}
use Rattle.std.specs.Prelude.{string_bytes}
use Rattle.dep_group.specs.Words.{spaced, spaced_after}
use Rattle.vdb_files.proofs.texts.text_of_flags.Given as goal

abbrev pub invariant-loop-flag : goal.invariant-loop-flag
invariant-loop-flag l = spaced_after (string_bytes l.words) l.flag-iterator ≡ spaced l.flags
