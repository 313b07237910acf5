use Rattle.std.proofs.Common.{◌++◌, List, arith, map, subst, take}
use Rattle.std.specs.List.{AllZip}
use Rattle.build_pool.specs.declared.orders.Order.{Order}
use Rattle.pkg_state.specs.Package.{Package}
use Rattle.plan_text.specs.Plans.{group_value}
use Rattle.plan_text.specs.declared.plan.Group.{Group}
use Rattle.plan_check.specs.Asks.{all_asked}
use Rattle.plan_model.specs.Asking.{AreAsked, IsAsked, additions_of}
use Rattle.plan_model.proofs.Taking.{group_asked, groups_asked}
use Rattle.plan_model.proofs.asking.asks_of.Goals as goal

pub loop-group-preserved : goal.loop-group-preserved
loop-group-preserved c =
    let offered = c.in_ok-offers.offers.offered.now in
    let before = additions_of (map group_value (take c.loop-group.group-index c.deref-group-items.result.now)) in
    let new = all_asked c.push_asked.new.asks.items in
    group_asked offered c.deref-group-items.result.now c.loop-group.group-index c.group-item.result new (omega arith) c.group-item.is
    (subst (λ (xs : List Order). AllZip (IsAsked offered) (before ++ xs) new) c.deref.ensures.value (c.in_ok-push_asked.ensures before c.loop-group.invariant))

pub returns : goal.returns
returns c =
    let asks = all_asked c.loop-group.asks.items in
    subst (λ (gs : List Group). AreAsked c.args.offered.now (map group_value gs) asks) c.deref-group-items.ensures.value
    (subst (λ (ps : List Package). AreAsked ps (map group_value c.deref-group-items.result.now) asks) c.in_ok-offers.ensures
    (groups_asked c.in_ok-offers.offers.offered.now c.deref-group-items.result.now c.loop-group.group-index asks (omega arith) c.loop-group.invariant))
