use Rattle.std.proofs.Common.{◌≡◌, ◌++◌, take}
use Rattle.std.specs.Prelude.{string_bytes}
use Rattle.std.specs.List.{flat_map}
use Rattle.plan_text.specs.Printed.{removal_text}
use Rattle.plan_text.proofs.print.push_removals.Given as goal

abbrev pub invariant-loop-removal : goal.invariant-loop-removal
invariant-loop-removal l = string_bytes l.out ≡ string_bytes l.fn.out ++ flat_map removal_text (take l.removal-index l.removals)
