-- What a table of the code says of the groups that reach one another.
use Rattle.std.specs.Prelude.{map}
use Rattle.plan_lives.specs.Form.{IsPlanInForm}
use Rattle.plan_lives.specs.Reaching.{AreReaching}
use Rattle.plan_lives.specs.declared.reach.Reach.{Reach}

-- it has the groups that reach each group
pub record IsReach (reach : Reach) : Type 0 where
  pub form : IsPlanInForm reach.groups.now
  pub rows_are : AreReaching reach.groups.now (map (λ row. row.items) reach.rows.items)
