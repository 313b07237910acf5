use Rattle.std.proofs.Common.{◌≡◌, take}
use Rattle.std.specs.Prelude.{string_bytes}
use Rattle.std.specs.List.{flat_map}
use Rattle.merge_report.specs.Texts.{come_text}
use Rattle.merge_report.proofs.texts.listed_additions.Given as goal

abbrev pub invariant-loop-addition : goal.invariant-loop-addition
invariant-loop-addition l = string_bytes l.listed ≡ flat_map come_text (take l.addition-index l.additions)
