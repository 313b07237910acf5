use Rattle.std.proofs.Common.{◌≡◌, take}
use Rattle.plan_repair.proofs.behind.copies.Given as goal

abbrev pub invariant-loop-pkg : goal.invariant-loop-pkg
invariant-loop-pkg l = l.copies.items ≡ take l.pkg-index l.packages
