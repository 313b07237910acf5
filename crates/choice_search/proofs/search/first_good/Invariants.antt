use Rattle.std.proofs.Common.{◌≡◌, ◌≤◌, ◌-◌, length}
use Rattle.choice_search.specs.Frames.{levels_at, next_if}
use Rattle.choice_search.proofs.Searching.{IsSearching, steps_left}
use Rattle.choice_search.proofs.search.first_good.Given as goal

abbrev pub invariant-loop-more : goal.invariant-loop-more
invariant-loop-more g l =
    let shape = g.T.Tree.shape l.fn.tree in
    let path = g.T.Tree.path l.tree in
    (g.T.Tree.shape l.tree ≡ shape)
    × (length l.frames.items ≤ length path.above)
    × IsSearching shape (g.T.Tree.path l.fn.tree).here l.limit l.dead.items (levels_at g.T.Tree.option_by path l.frames.items) (next_if l.more path)

abbrev pub decreases-loop-more : goal.decreases-loop-more
decreases-loop-more g l =
    let shape = g.T.Tree.shape l.fn.tree in
    steps_left shape (shape.room (g.T.Tree.path l.fn.tree).here) (l.limit - length l.dead.items) (next_if l.more (g.T.Tree.path l.tree))
