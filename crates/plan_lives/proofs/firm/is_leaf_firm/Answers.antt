use Rattle.std.proofs.Common.{◌∙◌, sym}
use Rattle.plan_lives.proofs.Serving.{ok_iff}
use Rattle.plan_lives.proofs.firm.is_leaf_firm.Goals as goal

pub returns : goal.returns
returns c = ok_iff c.is_chained.result ((λ ch. λ off. ch), (λ f. f (sym c.is_block.ensures ∙ c.if-is_block.false))) c.is_chained.ensures
