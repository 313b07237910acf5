use Rattle.std.proofs.Common.{List, map, subst, sym}
use Rattle.plan_law.specs.Plans.{Removal, removed_line}
use Rattle.plan_lives.specs.Index.{plan_of, start_of}
use Rattle.plan_rules.specs.Order.{AreInOrder, each_by}
use Rattle.plan_rules.specs.Rules.{present_of}
use Rattle.plan_rules.specs.Verdicts.{each}
use Rattle.plan_rules.specs.declared.presence.Going.{Going}
use Rattle.plan_rules.proofs.Trying.{hears_in_order, says_more}
use Rattle.plan_rules.proofs.presence.judge_removals.Goals as goal

pub returns : goal.returns
returns c =
    let removals = c.args.removals.now in
    let items = c.deref.result.now in
    let ys : List Removal = map (λ (one : Going). one.removal.now) items in
    let J = present_of (plan_of c.args.index.now) (start_of c.args.index.now) c.args.g in
    let order : AreInOrder removed_line removals ys = subst (λ (is : List Going). AreInOrder removed_line removals (map (λ (one : Going). one.removal.now) is)) (sym c.deref.ensures.value) c.in_ok-all.ensures in
    says_more (each ys J) (each_by removed_line removals J) c.judge_in_order.result (hears_in_order removed_line removals ys J order) c.judge_in_order.ensures
