use Rattle.std.proofs.Common.{◌∙◌, sym}
use Rattle.plan_rules.proofs.Told.{on_ok}
use Rattle.plan_rules.proofs.opening.judge_opening.Goals as goal

pub returns-then-is_ok : goal.returns-then-is_ok
returns-then-is_ok c = on_ok c.consistent.result _ c.consistent.ensures.ok (sym c.is_ok.ensures.value ∙ c.if-is_ok.true)
