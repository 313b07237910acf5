use Rattle.std.proofs.Common.{◌≡◌, map, take}
use Rattle.merge_groups.proofs.grouping.copies_of.Given as goal

abbrev pub invariant-loop-one : goal.invariant-loop-one
invariant-loop-one l = l.copies.items ≡ map (λ l. l.pkg.now) (take l.one-index l.lined)
