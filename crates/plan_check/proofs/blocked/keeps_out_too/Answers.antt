use Rattle.std.proofs.Common.{◌≡◌, ◌⊎◌, Bor, Option, Some, ap, inl, inr, subst, sym}
use Rattle.std.specs.Option.{option_map}
use Rattle.std.specs.Prelude.{◌↔◌, IfOk, IsTrue}
use Rattle.std.proofs.lemmas.Result.{IfOk-weaker}
use Rattle.plan_lives.specs.Index.{plan_of}
use Rattle.plan_lives.specs.Lives.{life_of}
use Rattle.plan_check.specs.Kept.{IsKeptOut, IsKeptOutToo}
use Rattle.plan_check.specs.declared.blocked.Keeping.{Keeping}
use Rattle.plan_check.proofs.blocked.keeps_out_too.Goals as goal

pub returns-in-Some : goal.returns-in-Some
returns-in-Some c =
    let plan = plan_of c.args.index.now in
    let y = life_of c.args.y.now in
    let k = c.args.keeping.now in
    let other = c.in-Some.other.now in
    let is : option_map (λ (b : Bor Keeping). b.now) c.args.other ≡ Some other = ap (option_map (λ (b : Bor Keeping). b.now)) c.in-Some.is in
    subst (λ (o : Option Keeping). IfOk c.keeps_out-in-Some.result (λ out. IsTrue out ↔ (IsKeptOut plan k y ⊎ IsKeptOutToo plan o y))) (sym is)
    (IfOk-weaker c.keeps_out-in-Some.result (λ out. IsTrue out ↔ IsKeptOut plan other y) (λ out. IsTrue out ↔ (IsKeptOut plan k y ⊎ IsKeptOut plan other y)) (λ out h. (
      (λ t. inr (h.0 t)),
      (λ e. elim e [
        | inl one ↦ absurd (let t = c.in_ok-keeps_out.ensures.1 one in let f = c.if-branch.false in cc (t, f))
        | inr too ↦ h.1 too
      ]),
    )) c.keeps_out-in-Some.ensures)
