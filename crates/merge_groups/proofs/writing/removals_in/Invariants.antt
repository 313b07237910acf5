use Rattle.std.proofs.Common.{◌≡◌, map, take}
use Rattle.std.specs.List.{AllByRecursion}
use Rattle.plan_text.specs.Words.{IsRemoval}
use Rattle.merge_groups.specs.Written.{removal_in}
use Rattle.merge_groups.proofs.writing.removals_in.Given as goal

abbrev pub invariant-loop-removal : goal.invariant-loop-removal
invariant-loop-removal l =
    (l.all.items ≡ map removal_in (take l.removal-index l.removals)) × AllByRecursion IsRemoval l.all.items
