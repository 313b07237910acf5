use Rattle.std.proofs.Common.{◌≡◌, ◌∙◌, List, ap, map, subst, sym}
use Rattle.plan_law.specs.Lives as law
use Rattle.plan_lives.specs.Index.{all_lives, plan_of, start_of}
use Rattle.plan_lives.specs.Lives.{lives_of}
use Rattle.plan_check.specs.Asks.{AskedValue, all_asked}
use Rattle.plan_check.specs.PackageRules.{check_rule, lives_in, plan_rule}
use Rattle.plan_check.specs.Turns.{tried_value}
use Rattle.plan_check.proofs.Accepting.{lives_order}
use Rattle.plan_rules.specs.Order.{AreInOrder, life_key}
use Rattle.plan_rules.proofs.Trying.{says_more}
use Rattle.plan_check.proofs.checking.judge_all.Goals as goal

pub judge_in_order-requires-clause-order : goal.judge_in_order-requires-clause-order
judge_in_order-requires-clause-order c =
    let index = c.args.index.now in
    let them = map tried_value c.in_ok-tried.tried.items in
    subst (λ (ys : List law.Life). AreInOrder life_key (all_lives index) ys) (sym (ap lives_of c.deref-2.ensures.value ∙ (c.in_ok-all.ensures ∙ ap (λ ts. lives_in (map tried_value ts)) c.deref.ensures.value)))
    (lives_order (plan_of index) (start_of index) (all_asked c.args.asks.now) them c.in_ok-tried.ensures)

pub judge_in_order-requires-clause-lives : goal.judge_in_order-requires-clause-lives
judge_in_order-requires-clause-lives c =
    ap lives_of c.deref-2.ensures.value ∙ (c.in_ok-all.ensures ∙ ap (λ ts. lives_in (map tried_value ts)) (c.deref.ensures.value ∙ sym c.deref-3.ensures.value))

pub returns : goal.returns
returns c =
    let plan = plan_of c.args.index.now in
    let start = start_of c.args.index.now in
    let all = lives_of c.deref-2.result.now in
    let them = map tried_value c.in_ok-tried.tried.items in
    let same : all ≡ lives_in them = ap lives_of c.deref-2.ensures.value ∙ (c.in_ok-all.ensures ∙ ap (λ ts. lives_in (map tried_value ts)) c.deref.ensures.value) in
    says_more (plan_rule plan start all (map tried_value c.deref-3.result.now)) (check_rule plan start (all_asked c.args.asks.now)) c.judge_in_order.result
    (λ a h. (
      them,
      c.in_ok-tried.ensures,
      subst (λ (ys : List law.Life). plan_rule plan start ys them a) same
          (subst (λ (ts : List (law.Life × AskedValue)). plan_rule plan start all ts a) (ap (map tried_value) c.deref-3.ensures.value) h),
    ))
    c.judge_in_order.ensures
