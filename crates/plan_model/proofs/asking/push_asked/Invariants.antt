use Rattle.std.proofs.Common.{◌++◌, List, take}
use Rattle.std.specs.List.{AllZip}
use Rattle.build_pool.specs.declared.orders.Order.{Order}
use Rattle.plan_check.specs.Asks.{all_asked}
use Rattle.plan_model.specs.Asking.{IsAsked}
use Rattle.plan_model.proofs.asking.push_asked.Given as goal

abbrev pub invariant-loop-addition : goal.invariant-loop-addition
invariant-loop-addition l =
    (before : List Order) → AllZip (IsAsked l.offers.offered.now) before (all_asked l.fn.asks.items)
    → AllZip (IsAsked l.offers.offered.now) (before ++ take l.addition-index l.additions) (all_asked l.asks.items)
