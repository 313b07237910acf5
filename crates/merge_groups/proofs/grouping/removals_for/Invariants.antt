use Rattle.std.proofs.Common.{◌≡◌, map, take}
use Rattle.merge_groups.specs.Grouped.{removal_for}
use Rattle.merge_groups.proofs.grouping.removals_for.Given as goal

abbrev pub invariant-loop-one : goal.invariant-loop-one
invariant-loop-one l = l.removals.items ≡ map removal_for (map (λ l. l.pkg.now) (take l.one-index l.lined))
