use Rattle.std.proofs.Common.{arith}
use Rattle.std.proofs.lemmas.Result.{IfOk-weaker}
use Rattle.plan_rules.proofs.room.is_in_way.Goals as goal

pub returns : goal.returns
returns c = IfOk-weaker c.hinders.result _ _ (λ in_way h. ((λ t. ((λ e. omega (arith, e, c.if-j-i.false)), h.0 t)), (λ k. h.1 k.1))) c.hinders.ensures
