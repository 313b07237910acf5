use Rattle.std.proofs.Common.{◌≡◌, ◌++◌, drop, filter}
use Rattle.plan_repair.specs.Repair.{is_elsewhere}
use Rattle.plan_repair.proofs.behind.add_others.Given as goal

abbrev pub invariant-loop-pkg : goal.invariant-loop-pkg
invariant-loop-pkg l = l.all.items ++ filter (is_elsewhere l.lines) (drop l.pkg-index l.packages) ≡ l.fn.all.items ++ filter (is_elsewhere l.lines) l.packages
