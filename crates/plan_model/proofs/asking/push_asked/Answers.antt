use Rattle.std.proofs.Common.{◌+◌, ◌++◌, List, arith, subst, sym, take}
use Rattle.std.specs.List.{AllZip}
use Rattle.plan_check.specs.Asks.{all_asked}
use Rattle.plan_check.specs.declared.asked.Asked.{Asked}
use Rattle.plan_model.specs.Asking.{IsAsked}
use Rattle.plan_model.proofs.Taking.{asked_all, asked_more, asked_none}
use Rattle.plan_model.proofs.asking.push_asked.Goals as goal

pub loop-addition-init : goal.loop-addition-init
loop-addition-init c before h = asked_none c.args.offers.now.offered.now c.args.additions.now (all_asked c.args.asks.now.items) before h

pub loop-addition-preserved : goal.loop-addition-preserved
loop-addition-preserved c before h =
    let i = c.loop-addition.addition-index in
    subst (λ (ys : List Asked). AllZip (IsAsked c.args.offers.now.offered.now) (before ++ take (i + 1) c.args.additions.now) (all_asked ys)) (sym {A = List Asked} c.in_ok-push.ensures.items)
    (asked_more c.args.offers.now.offered.now c.args.additions.now i c.addition-item.result c.loop-addition.asks.items c.in_ok-asked.field-0 before (omega arith) c.addition-item.is c.in_ok-asked.ensures (c.loop-addition.invariant before h))

pub returns : goal.returns
returns c before h = asked_all c.args.offers.now.offered.now c.args.additions.now c.loop-addition.addition-index c.loop-addition.asks.items before (omega arith) (c.loop-addition.invariant before h)
