use Rattle.std.proofs.Common.{◌≡◌, map, take}
use Rattle.law_commit.specs.Lit.{lit}
use Rattle.run_opening.proofs.order.in_line_order.Given as goal

abbrev pub invariant-loop-one : goal.invariant-loop-one
invariant-loop-one l = l.copies.items ≡ map (λ x. lit l.implicit x.pkg.now) (take l.one-index l.one-items)
