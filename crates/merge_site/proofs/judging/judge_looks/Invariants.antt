use Rattle.std.proofs.Common.{◌≡◌, ◌≤◌, take}
use Rattle.std.specs.Prelude.{IsTrue}
use Rattle.std.specs.List.{AllByRecursion}
use Rattle.owner_book.specs.Book.{owner_in}
use Rattle.merge_site.specs.Claiming.{IsClearFor}
use Rattle.merge_site.proofs.judging.judge_looks.Given as goal

abbrev pub invariant-loop-wish : goal.invariant-loop-wish
invariant-loop-wish g l =
    (IsTrue g.T.Tree.tells → g.T.Tree.story l.tree ≡ g.T.Tree.story l.fn.tree)
    × (IsTrue g.T.Tree.tells → AllByRecursion (IsClearFor (g.T.Tree.story l.fn.tree).now.holds (owner_in l.book.owned)) (take l.wish-index l.wishes))
    × (g.T.Tree.faults l.fn.tree ≤ g.T.Tree.faults l.tree)
