use Rattle.std.proofs.Common.{◌≡◌, ◌∷◌, [], List, map, take}
use Rattle.vdb_law.specs.Packages.{Installed}
use Rattle.run_files.specs.Keys.{folders_with}
use Rattle.run_files.specs.Places.{ArePlaces}
use Rattle.run_turns.specs.Plans.{bytes_of_job, coming, dying_keys, line_bytes, removed_keys}
use Rattle.run_turns.proofs.sites.site_groups.Given as goal

abbrev pub invariant-loop-place : goal.invariant-loop-place
invariant-loop-place l =
    ((ps : List Installed) → ArePlaces (folders_with ps (coming l.plan)) l.places →
    map dying_keys l.groups.items ≡ [] ∷ map (removed_keys ps l.plan) (take l.place l.plan))
    × (map line_bytes l.groups.items ≡ [] ∷ map bytes_of_job (take l.place l.jobs))
