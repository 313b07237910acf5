use Rattle.std.proofs.Common.{inl, inr, refl}
use Rattle.std.proofs.lemmas.Result.{IfOk-weaker}
use Rattle.plan_rules.proofs.hindrance.hinders.Goals as goal

pub returns-then-branch : goal.returns-then-branch
returns-then-branch c = ((λ t. inl (c.in_ok-has_line.ensures.0 c.if-branch.true)), (λ h. refl))

pub returns : goal.returns
returns c =
    IfOk-weaker c.are_double.result _ _ (λ double h. (
      (λ t. inr (h.0 t)),
      (λ k. elim k [
        | inl line ↦ absurd (let t = c.in_ok-has_line.ensures.1 line in let f = c.if-branch.false in cc (t, f))
        | inr d ↦ h.1 d
      ]),
    )) c.are_double.ensures
