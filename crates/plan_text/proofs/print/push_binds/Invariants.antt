use Rattle.std.proofs.Common.{◌≡◌, ◌++◌, take}
use Rattle.std.specs.Prelude.{string_bytes}
use Rattle.std.specs.List.{flat_map}
use Rattle.plan_text.specs.Printed.{bind_text}
use Rattle.plan_text.proofs.print.push_binds.Given as goal

abbrev pub invariant-loop-bind : goal.invariant-loop-bind
invariant-loop-bind l = string_bytes l.out ≡ string_bytes l.fn.out ++ flat_map bind_text (take l.bind-index l.binds)
