use Rattle.std.proofs.Common.{◌∙◌, ap, get_or, sym}
use Rattle.plan_text.specs.declared.kind.Kind.TheVariants as kinds
use Rattle.std.specs.Fmt.{decimal}
use Rattle.plan_text.proofs.Said.{none_of}
use Rattle.plan_text.proofs.line.read_group.Goals as goal

pub returns-in_default : goal.returns-in_default
returns-in_default c = none_of kinds.Group _ (λ n is e. c.in_default.ensures (decimal n) e)

pub returns-in-None : goal.returns-in-None
returns-in-None c = none_of kinds.Group _ (λ n is e. c.in-None.ensures n is (ap (λ l. get_or l 0 (decimal n)) (sym c.in-Some.ensures ∙ e)))
