use Rattle.std.proofs.Common.{◌≡◌, map, take}
use Rattle.plan_rules.proofs.line_order.all_lined.Given as goal

abbrev pub invariant-loop-pkg : goal.invariant-loop-pkg
invariant-loop-pkg l = map (λ x. x.pkg.now) l.lined.items ≡ take l.pkg-index l.packages
