use Rattle.std.proofs.Common.{◌≡◌, map, take}
use Rattle.plan_repair.specs.Repair.{bare}
use Rattle.plan_repair.proofs.bare.all_bare.Given as goal

abbrev pub invariant-loop-pkg : goal.invariant-loop-pkg
invariant-loop-pkg l = l.copies.items ≡ map bare (take l.pkg-index l.packages)
