use Rattle.std.proofs.Common.{◌≡◌, ◌++◌}
use Rattle.std.specs.Prelude.{string_bytes}
use Rattle.std.specs.List.{flat_map}
use Rattle.plan_text.specs.Printed.{spaced}
use Rattle.plan_text.proofs.print.push_flags.Given as goal

abbrev pub invariant-loop-flag : goal.invariant-loop-flag
invariant-loop-flag l = string_bytes l.out ++ flat_map spaced l.flag-iterator ≡ string_bytes l.fn.out ++ flat_map spaced l.flags
