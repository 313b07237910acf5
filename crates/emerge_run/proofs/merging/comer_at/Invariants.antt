use Rattle.std.proofs.Common.{◌≡◌, drop, map}
use Rattle.std.specs.Prelude.{slice_get}
use Rattle.run_turns.specs.Plans.{coming}
use Rattle.emerge_run.specs.Collisions.{id_of_package}
use Rattle.emerge_run.proofs.merging.comer_at.Given as goal

abbrev pub invariant-loop-group : goal.invariant-loop-group
invariant-loop-group l =
    slice_get (map id_of_package (coming (drop l.group-index l.plan))) l.left
    ≡ slice_get (map id_of_package (coming l.plan)) l.place
