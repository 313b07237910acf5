use Rattle.std.proofs.Common.{◌≡◌, ◌++◌, drop, map}
use Rattle.plan_rules.specs.Changes.{change_of, changes_from}
use Rattle.plan_rules.proofs.order.changes_of.Given as goal

abbrev pub invariant-loop-g : goal.invariant-loop-g
invariant-loop-g l = map change_of l.changes.items ++ changes_from l.g (drop l.g l.groups) ≡ changes_from 0 l.groups
