use Rattle.std.proofs.Common.{◌∷◌, []}
use Rattle.plan_text.specs.declared.kind.Kind.TheVariants as kinds
use Rattle.plan_text.proofs.Said.{none_of}
use Rattle.plan_text.proofs.line.read_plan.Goals as goal

pub returns-in_default : goal.returns-in_default
returns-in_default c = none_of kinds.Plan _ (λ x is e. c.in_default.ensures (49 ∷ []) e)
