use Rattle.std.proofs.Common.{◌≡◌, ◌++◌, take, map}
use Rattle.std.specs.Prelude.{string_bytes}
use Rattle.std.specs.List.{flat_map}
use Rattle.plan_text.specs.Printed.{addition_text}
use Rattle.plan_text.proofs.print.push_additions.Given as goal

abbrev pub invariant-loop-addition : goal.invariant-loop-addition
invariant-loop-addition l = string_bytes l.out ≡ string_bytes l.fn.out ++ flat_map addition_text (take l.addition-index l.additions)
