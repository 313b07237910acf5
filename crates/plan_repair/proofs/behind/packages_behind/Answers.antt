use Rattle.std.proofs.Common.{◌≡◌, ◌∙◌, length, sym, ap}
use Rattle.std.proofs.lemmas.Bool.{eqb-true}
use Rattle.std.proofs.lemmas.Result.{IfOk-weaker}
use Rattle.plan_repair.specs.Repair.{behind}
use Rattle.plan_repair.proofs.Staying.{behind_none}
use Rattle.plan_repair.proofs.behind.packages_behind.Goals as goal

pub returns-then-is_empty : goal.returns-then-is_empty
returns-then-is_empty c =
    let none : length c.args.plan.now ≡ 0 = ap length (sym c.groups-groups.ensures.groups) ∙ eqb-true _ _ (sym c.is_empty.ensures ∙ c.if-is_empty.true) in
    IfOk-weaker c.copies.result (λ all. all.items ≡ c.args.start.now) (λ all. all.items ≡ behind c.args.plan.now c.args.start.now)
    (λ all h. h ∙ sym (behind_none c.args.plan.now c.args.start.now none)) c.copies.ensures
