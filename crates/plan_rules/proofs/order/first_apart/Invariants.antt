use Rattle.std.proofs.Common.{map, take}
use Rattle.std.specs.Option.{option_map}
use Rattle.plan_rules.specs.Changes.{change_of, pair_of}
use Rattle.plan_rules.proofs.Ordered.{IsBest, IsSeen, IsSeenWith}
use Rattle.plan_rules.proofs.order.first_apart.Given as goal

abbrev pub invariant-loop-change : goal.invariant-loop-change
invariant-loop-change l = IsBest l.reach.groups.now (IsSeen (map change_of (take l.change-index l.changes))) (option_map pair_of l.first)

abbrev pub invariant-loop-higher : goal.invariant-loop-higher
invariant-loop-higher l = IsBest l.reach.groups.now (IsSeenWith (map change_of (take l.change-index l.changes)) (change_of l.change) (take l.higher-index l.higher-items)) (option_map pair_of l.first)
