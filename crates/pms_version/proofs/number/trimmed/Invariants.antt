use Rattle.std.proofs.Common.{◌≡◌, ◌≤◌, length, take}
use Rattle.pms_version.specs.Order.{trim_zeros}
use Rattle.pms_version.proofs.number.trimmed.Given as goal

abbrev pub invariant-loop-end : goal.invariant-loop-end
invariant-loop-end l = record { in_range : l.end ≤ length l.digits; same : trim_zeros (take l.end l.digits) ≡ trim_zeros l.digits }

abbrev pub decreases-loop-end : goal.decreases-loop-end
decreases-loop-end l = l.end
