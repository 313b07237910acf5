-- Whatever the parents that are left come to, all of them come to.
use Rattle.std.proofs.Common.{◌≡◌, ◌≤◌, ◌-◌, drop, length}
use Rattle.std.specs.Prelude.{IsTrue}
use Rattle.profile_folders.specs.Folders.{most_profiles}
use Rattle.profile_folders.proofs.Steps.{GoesOn}
use Rattle.profile_folders.proofs.folders.+read_profile.Given as goal

abbrev pub decreases-read_profile : goal.decreases-read_profile
decreases-read_profile g l = most_profiles - length l.course.now.above.items

abbrev pub invariant-loop-parent : goal.invariant-loop-parent
invariant-loop-parent g l =
    (IsTrue g.T.Tree.tells → GoesOn (g.T.Tree.story l.fn.tree).now.holds l.initial.course.above.items l.fn.course.folders.items l.parent-items l.course.folders.items (drop l.parent-index l.parent-items))
    × (l.course.above.items ≡ l.initial.course.above.items)
    × (IsTrue g.T.Tree.tells → g.T.Tree.story l.tree ≡ g.T.Tree.story l.fn.tree)
    × (g.T.Tree.faults l.fn.tree ≤ g.T.Tree.faults l.tree)
