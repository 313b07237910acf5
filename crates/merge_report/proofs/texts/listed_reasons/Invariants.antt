use Rattle.std.proofs.Common.{◌≡◌, take}
use Rattle.std.specs.Prelude.{string_bytes}
use Rattle.std.specs.List.{flat_map}
use Rattle.merge_report.specs.Texts.{reason_text}
use Rattle.merge_report.proofs.texts.listed_reasons.Given as goal

abbrev pub invariant-loop-reason : goal.invariant-loop-reason
invariant-loop-reason l = string_bytes l.listed ≡ flat_map reason_text (take l.reason-index l.reasons)
