use Rattle.std.proofs.Common.{◌≡◌, length}
use Rattle.choice_search.specs.Frames.{levels_at}
use Rattle.choice_search.proofs.Backing.{IsBacking}
use Rattle.choice_search.proofs.back.go_back.Given as goal

abbrev pub invariant-loop-frame : goal.invariant-loop-frame
invariant-loop-frame g l =
    let shape = g.T.Tree.shape l.fn.tree in
    let first = levels_at g.T.Tree.option_by (g.T.Tree.path l.fn.tree) l.fn.frames.items in
    (g.T.Tree.shape l.tree ≡ shape)
    × IsBacking shape g.T.Tree.option_by first l.fn.cause.items (g.T.Tree.path l.tree) l.frames.items l.cause.items

abbrev pub decreases-loop-frame : goal.decreases-loop-frame
decreases-loop-frame g l = length l.frames.items
