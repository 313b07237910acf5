use Rattle.std.proofs.Common.{◌≡◌, ◌+◌, ◌≤◌, ℕ, length}
use Rattle.std.specs.Prelude.{IsTrue}
use Rattle.build_pool.specs.Pool.{SameIds, faults_of}
use Rattle.file_tree.specs.Disk.{Rose}
use Rattle.merge_group.specs.Lines.{AreLines, line_in}
use Rattle.file_tree.specs.Output.{Wrote}
use Rattle.merge_group.specs.Through.{HasRoom}
use Rattle.merge_site.specs.Site.{IsSameSite}
use Rattle.merge_image.specs.Images.{IsBuilt, TellAlike}
use Rattle.run_turns.specs.Held.{holdings_of}
use Rattle.run_plan.specs.Courses.{IsUpTo}
use Rattle.run_plan.proofs.turns.merge_groups.Given as goal

abbrev pub invariant-loop-place : goal.invariant-loop-place
invariant-loop-place g l =
    IsUpTo (IsBuilt g.B.Builder.tells g.B.Builder.told l.fn.pool.resting) l.plan l.jobs l.places (holdings_of l.fn.progress.held) g.T.Tree.tells (g.T.Tree.story l.fn.site.opened).now.holds l.place (holdings_of l.progress.held) l.progress.history.items l.progress.acknowledged.items l.site
    × IsSameSite l.fn.site l.site
    × ((n : ℕ) → l.place + n ≡ length l.plan → HasRoom n l.progress.history)
    × ((n : ℕ) → l.place + n ≡ length l.plan → HasRoom n l.progress.acknowledged)
    × (IsTrue g.S.Sink.tells → Wrote (AreLines (Rose (g.S.Sink.faults l.fn.site.sink) (g.S.Sink.faults l.site.sink)) (line_in l.fn.site.groups) l.progress.history.items l.progress.acknowledged.items) (g.S.Sink.written l.fn.site.sink) (g.S.Sink.written l.site.sink))
    × (g.T.Tree.faults l.fn.site.tree ≤ g.T.Tree.faults l.site.tree)
    × (g.S.Sink.faults l.fn.site.sink ≤ g.S.Sink.faults l.site.sink)
    × TellAlike g.B.Builder.told l.fn.pool.resting l.pool.resting
    × (length l.pool.resting ≡ length l.fn.pool.resting)
    × SameIds g.B.Builder.number l.fn.pool l.pool
    × (l.pool.lent ≡ l.fn.pool.lent)
    × (faults_of g.B.Builder.faults l.fn.pool ≤ faults_of g.B.Builder.faults l.pool)
