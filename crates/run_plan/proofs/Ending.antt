-- How a plan's run ends once its journal is cleared.
use Rattle.std.proofs.Common.{◌≡◌, Ok, Err, Result, refl}
use Rattle.merge_group.specs.declared.stop.Stop.{Stop}
use Rattle.run_plan.specs.Ends.{build_of, joined_end}
use Rattle.run_plan.specs.Runs.{merge_end}
use Rattle.run_plan.specs.declared.stop.PlanStop.{PlanStop}
use Rattle.run_plan.specs.declared.stop.PlanStop.TheVariants as stops

pub merge_joined : (end : Result (Unit {0}) PlanStop) (r : Result (Unit {0}) Stop) → merge_end tt (joined_end r (build_of end)) ≡ r
merge_joined end (Err s) = refl
merge_joined (Ok x) (Ok y) = refl
merge_joined (Err (stops.Merge s)) (Ok y) = refl
merge_joined (Err (stops.Build id)) (Ok y) = refl
merge_joined (Err (stops.Image id)) (Ok y) = refl
