use Rattle.std.proofs.Common.{◌∙◌, ap, get_or, sym}
use Rattle.plan_text.specs.Words.{bind_word}
use Rattle.plan_text.specs.declared.kind.Kind.TheVariants as kinds
use Rattle.plan_text.proofs.Said.{none_of}
use Rattle.plan_text.proofs.line.read_bound.Goals as goal

pub returns-in_default : goal.returns-in_default
returns-in_default c = none_of kinds.Bind _ (λ x is e. c.in_default.ensures (bind_word x) e)

pub returns-in-None : goal.returns-in-None
returns-in-None c = none_of kinds.Bind _ (λ x is e. (rw c.in-None.is at c.in_ok-bind.ensures) x is (ap (λ l. get_or l 0 (bind_word x)) (sym c.in-Some.ensures ∙ e)))
