use Rattle.std.proofs.Common.{◌≡◌, map, take}
use Rattle.plan_model.specs.Linked.{removal_of}
use Rattle.plan_model.proofs.group.removals_of.Given as goal

abbrev pub invariant-loop-removal : goal.invariant-loop-removal
invariant-loop-removal l = l.copies.items ≡ map removal_of (take l.removal-index l.removals)
