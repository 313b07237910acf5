use Rattle.std.proofs.Common.{◌≡◌, string_bytes}
use Rattle.std.specs.List.{flat_map}
use Rattle.merge_report.specs.Shown.{shown_char}
use Rattle.merge_report.proofs.escapes.shown.Given as goal

abbrev pub invariant-loop-letter : goal.invariant-loop-letter
invariant-loop-letter l = string_bytes l.seen ≡ flat_map shown_char l.yielded
