use Rattle.std.proofs.Common.{◌≡◌, map, take}
use Rattle.run_opening.specs.Order.{recorded_of}
use Rattle.run_opening.proofs.order.all_lined.Given as goal

abbrev pub invariant-loop-package : goal.invariant-loop-package
invariant-loop-package l = map (λ x. x.pkg.now) l.lined.items ≡ recorded_of (take l.package-index l.packages)
