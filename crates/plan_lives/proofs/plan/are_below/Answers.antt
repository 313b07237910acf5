use Rattle.std.proofs.Common.{get_or, arith}
use Rattle.plan_lives.proofs.Places.{place_has}
use Rattle.plan_lives.proofs.plan.are_below.Goals as goal

pub returns-then-h-g : goal.returns-then-h-g
returns-then-h-g c = (λ t. cc, λ are. absurd (let less = are (get_or c.args.after.now c.loop-h.h-index 0) (place_has c.args.after.now c.loop-h.h-index c.loop-h-test.true) in let far = c.if-h-g.true in omega (arith, less, far)))
