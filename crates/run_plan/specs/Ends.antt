-- The end of a plan's run: that of its merge, and a stop of a build.
use Rattle.std.specs.Prelude.{◌≡◌, Option, None, Some, Ok, Err, Result, ⊤}
use Rattle.merge_group.specs.declared.stop.Stop.{Stop}
use Rattle.merge_group.specs.declared.stop.Stop.TheVariants as merges
use Rattle.run_plan.specs.declared.stop.PlanStop.{PlanStop}
use Rattle.run_plan.specs.declared.stop.PlanStop.TheVariants as stops

-- a stop of a build
abbrev pub build_of : {A : Type 0} → Result A PlanStop → Option PlanStop
build_of (Ok x) = None
build_of (Err (stops.Merge s)) = None
build_of (Err (stops.Build id)) = Some (stops.Build id)
build_of (Err (stops.Image id)) = Some (stops.Image id)

-- the end of a run whose merge ended so, beside such a stop
abbrev pub joined_end : {A : Type 0} → Result A Stop → Option PlanStop → Result A PlanStop
joined_end (Err s) build = Err (stops.Merge s)
joined_end (Ok x) None = Ok x
joined_end (Ok x) (Some e) = Err e

-- a run that ended so ends so once its journal is cleared: as before, or for a fault of the tree
abbrev pub ClosesAs : {A : Type 0} → Result A PlanStop → Result A PlanStop → Type 0
ClosesAs end (Ok x) = end ≡ Ok x
ClosesAs end (Err (stops.Merge (merges.Tree of))) = ⊤
ClosesAs end (Err e) = end ≡ Err e
