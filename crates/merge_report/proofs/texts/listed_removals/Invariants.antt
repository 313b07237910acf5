use Rattle.std.proofs.Common.{◌≡◌, take}
use Rattle.std.specs.Prelude.{string_bytes}
use Rattle.std.specs.List.{flat_map}
use Rattle.merge_report.specs.Texts.{gone_text}
use Rattle.merge_report.proofs.texts.listed_removals.Given as goal

abbrev pub invariant-loop-removal : goal.invariant-loop-removal
invariant-loop-removal l = string_bytes l.listed ≡ flat_map gone_text (take l.removal-index l.removals)
