use Rattle.std.proofs.Common.{drop, take}
use Rattle.std.specs.List.{AllZip}
use Rattle.plan_rules.specs.Verdicts.{each}
use Rattle.plan_rules.proofs.Trying.{Hears}
use Rattle.plan_model.specs.Faults.{addition_rule}
use Rattle.plan_model.specs.Offers.{Brings}
use Rattle.plan_model.proofs.group.link_additions.Given as goal

abbrev pub invariant-loop-addition : goal.invariant-loop-addition
invariant-loop-addition l =
    AllZip (Brings l.offers.offered.now) (take l.addition-index l.additions) l.linked.items
    × Hears (each (drop l.addition-index l.additions) (addition_rule l.offers.offered.now l.g)) (each l.additions (addition_rule l.offers.offered.now l.g))
