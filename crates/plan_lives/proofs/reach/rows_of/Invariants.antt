use Rattle.std.proofs.Common.{◌≡◌, length, map}
use Rattle.plan_lives.specs.Reaching.{AreRows}
use Rattle.plan_lives.proofs.reach.rows_of.Given as goal

abbrev pub invariant-loop-g : goal.invariant-loop-g
invariant-loop-g l = (length l.rows.items ≡ l.g) × AreRows l.groups l.width (map (λ v. v.items) l.rows.items)
