use Rattle.std.proofs.Common.{◌≡◌, map, take}
use Rattle.run_turns.specs.Plans.{bytes_of_job}
use Rattle.plan_text.specs.Plans.{group_value}
use Rattle.emerge_run.specs.Builds.{lines_from, ordered_of_job, orders_in}
use Rattle.emerge_run.proofs.prepare.jobs_of.Given as goal

abbrev pub invariant-loop-place : goal.invariant-loop-place
invariant-loop-place l =
    (map bytes_of_job l.jobs.items ≡ lines_from 1 (take l.place l.plan))
    × (map ordered_of_job l.jobs.items ≡ map orders_in (take l.place (map group_value l.texts)))
