use Rattle.std.proofs.Common.{drop, map, take}
use Rattle.std.specs.List.{AllZip}
use Rattle.plan_text.specs.Plans.{group_value}
use Rattle.plan_rules.specs.Verdicts.{each_from}
use Rattle.plan_rules.proofs.Trying.{Hears}
use Rattle.plan_model.specs.Faults.{group_rule}
use Rattle.plan_model.specs.Linked.{IsLinkedGroup}
use Rattle.plan_model.proofs.linking.link_groups.Given as goal

abbrev pub invariant-loop-g : goal.invariant-loop-g
invariant-loop-g l =
    AllZip (IsLinkedGroup l.offers.offered.now) (take l.g (map group_value l.groups)) l.linked.items
    × Hears (each_from l.g (drop l.g (map group_value l.groups)) (group_rule l.offers.offered.now)) (each_from 0 (map group_value l.groups) (group_rule l.offers.offered.now))
