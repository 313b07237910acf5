use Rattle.std.proofs.Common.{◌≡◌, map, take}
use Rattle.plan_law.specs.Plans.{removed_line}
use Rattle.plan_repair.proofs.behind.cleared_lines.Given as goal

abbrev pub invariant-loop-removal : goal.invariant-loop-removal
invariant-loop-removal l = l.lines.items ≡ map removed_line (take l.removal-index l.removals)
