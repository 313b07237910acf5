use Rattle.std.proofs.Common.{map, take}
use Rattle.plan_text.specs.Plans.{group_value}
use Rattle.plan_check.specs.Asks.{all_asked}
use Rattle.plan_model.specs.Asking.{AreAsked}
use Rattle.plan_model.proofs.asking.asks_of.Given as goal

abbrev pub invariant-loop-group : goal.invariant-loop-group
invariant-loop-group l = AreAsked l.offers.offered.now (map group_value (take l.group-index l.group-items)) (all_asked l.asks.items)
