use Rattle.std.proofs.Common.{◌≡◌, ◌≤◌, length, map, take}
use Rattle.std.specs.List.{AllZip}
use Rattle.build_pool.specs.Pool.{SameIds, faults_of}
use Rattle.run_files.specs.Made.{package_of}
use Rattle.merge_image.specs.Images.{IsBuilt, TellAlike}
use Rattle.run_plan.proofs.newcomers.newcomers_of.Given as goal

abbrev pub invariant-loop-place : goal.invariant-loop-place
invariant-loop-place g l =
    (map package_of l.newcomers.items ≡ take l.place l.additions)
    × AllZip (λ o n. IsBuilt g.B.Builder.tells g.B.Builder.told l.fn.pool.resting o n.image.items) (take l.place l.orders) l.newcomers.items
    × TellAlike g.B.Builder.told l.fn.pool.resting l.pool.resting
    × (length l.pool.resting ≡ length l.fn.pool.resting)
    × SameIds g.B.Builder.number l.fn.pool l.pool
    × (l.pool.lent ≡ l.fn.pool.lent)
    × (faults_of g.B.Builder.faults l.fn.pool ≤ faults_of g.B.Builder.faults l.pool)
