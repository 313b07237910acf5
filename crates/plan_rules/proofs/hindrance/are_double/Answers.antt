use Rattle.std.proofs.Common.{rules}
use Rattle.std.proofs.lemmas.Result.{IfOk-weaker}
use Rattle.plan_rules.proofs.hindrance.are_double.Goals as goal

pub returns : goal.returns
returns c =
    IfOk-weaker c.are_one_version.result _ _ (λ same h. ((λ t. record { double = h.0 t; early = c.is_tried_with.ensures.0 (search rules) }), (λ d. h.1 d.double))) c.are_one_version.ensures
