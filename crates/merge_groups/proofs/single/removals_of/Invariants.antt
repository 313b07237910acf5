use Rattle.std.proofs.Common.{◌≡◌, map, take}
use Rattle.std.specs.List.{AllByRecursion}
use Rattle.plan_text.specs.Words.{IsRemoval}
use Rattle.merge_groups.specs.Order.{removal_of}
use Rattle.merge_groups.proofs.single.removals_of.Given as goal

abbrev pub invariant-loop-one : goal.invariant-loop-one
invariant-loop-one l =
    (l.removals.items ≡ map removal_of (map (λ l. l.pkg.now) (take l.one-index l.lined)))
    × AllByRecursion IsRemoval l.removals.items
