use Rattle.std.proofs.Common.{map}
use Rattle.merge_groups.specs.Rows.{AreWaiting}
use Rattle.merge_groups.proofs.grouping.befores.Given as goal

abbrev pub invariant-loop-place : goal.invariant-loop-place
invariant-loop-place l = AreWaiting l.place (map (λ r. r.items) l.all.items)
