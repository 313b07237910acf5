use Rattle.std.proofs.Common.{◌≡◌, take}
use Rattle.std.specs.Prelude.{string_bytes}
use Rattle.std.specs.List.{flat_map}
use Rattle.merge_report.specs.Texts.{spaced_id}
use Rattle.merge_report.proofs.texts.listed_ids.Given as goal

abbrev pub invariant-loop-package : goal.invariant-loop-package
invariant-loop-package l = string_bytes l.listed ≡ flat_map spaced_id (take l.package-index l.packages)
