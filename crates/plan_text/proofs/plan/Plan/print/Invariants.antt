use Rattle.std.proofs.Common.{◌≡◌, ◌++◌, map, take}
use Rattle.std.specs.Prelude.{codes, string_bytes}
use Rattle.plan_text.specs.Plans.{group_value}
use Rattle.plan_text.specs.Printed.{groups_text}
use Rattle.plan_text.proofs.plan.Plan.print.Given as goal

abbrev pub invariant-loop-at : goal.invariant-loop-at
invariant-loop-at l = string_bytes l.out ≡ codes "plan 1\n" ++ groups_text 1 (map group_value (take l.at l.group-items))
