use Rattle.std.proofs.Common.{map, subst, sym}
use Rattle.plan_text.specs.Plans.{plan_value}
use Rattle.plan_text.specs.Texts.{IsPlan}
use Rattle.plan_text.specs.declared.plan.Plan.{Plan}
use Rattle.emerge_choose.specs.Wishes.{wish_value}
use Rattle.plan_model.specs.Linked.{IsLinked}
use Rattle.emerge_find.specs.Choices.{bare_of, choices_of}
use Rattle.emerge_find.proofs.Shaped.{shape_of, wish_shape}
use Rattle.emerge_find.proofs.choosing.made_over.Goals as goal

pub returns-in-Ok-clause-shape : goal.returns-in-Ok-clause-shape
returns-in-Ok-clause-shape c =
    let k = choices_of c.args.implicit.now c.args.packages.now c.args.candidates.items c.args.hidden.items in
    wish_shape k (wish_value c.in-Wished.wish) c.in-Ok.chosen c.in-Ok.ensures.chosen

pub returns-in-Ok-judged_over-clause-shape : goal.returns-in-Ok-judged_over-clause-shape
returns-in-Ok-judged_over-clause-shape c =
    let chosen = c.in-Ok-judged_over.chosen in
    let offered = map bare_of c.args.candidates.items in
    let back = sym c.in-Ok-judged_over.ensures.text in
    shape_of offered chosen (subst (λ (p : Plan). IsPlan (plan_value p)) back (rw c.in-Filed.is at c.requires.form))
    (subst (λ (p : Plan). IsLinked offered (plan_value p) chosen.plan) back c.in-Ok-judged_over.ensures.good.stands.linked)
