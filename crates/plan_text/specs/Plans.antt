-- Plans of groups as plain data: what a plan says, without the room of its lists.
use Rattle.std.specs.Prelude.{ℕ, List, map}
use Rattle.build_pool.specs.declared.orders.Order.{Order}
use Rattle.plan_text.specs.declared.plan.Group.{Group}
use Rattle.plan_text.specs.declared.plan.Plan.{Plan}
use Rattle.plan_text.specs.declared.plan.Removal.{Removal}

-- what a group waits for, by numbers, what it takes away and what it brings: the packages that are
-- to be built, as a builder is asked for them
pub record GroupValue : Type 0 where
  pub after : List ℕ
  pub removals : List Removal
  pub additions : List Order

abbrev pub group_value : Group → GroupValue
group_value g =
    record {
      after = g.after.items;
      removals = g.removals.items;
      additions = g.additions.items;
    }

-- the groups of the plan, the first of which has the number 1
abbrev pub plan_value : Plan → List GroupValue
plan_value p = map group_value p.groups.items
