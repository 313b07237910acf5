use Rattle.std.proofs.Common.{◌≡◌, List, map, take}
use Rattle.vdb_law.specs.Packages.{Installed}
use Rattle.plan_law.specs.Plans.{Group}
use Rattle.run_files.specs.Keys.{folders_with}
use Rattle.run_files.specs.Places.{ArePlaces}
use Rattle.run_turns.specs.Plans.{coming, key_of_id}
use Rattle.run_turns.proofs.keys.removed_keys.Given as goal

abbrev pub invariant-loop-removal : goal.invariant-loop-removal
invariant-loop-removal l =
    (ps : List Installed) (plan : List Group) → ArePlaces (folders_with ps (coming plan)) l.places →
    l.keys.items ≡ map (λ r. key_of_id ps plan r.id) (take l.removal-index l.removals)
