use Rattle.std.proofs.Common.{◌≡◌, ◌≤◌, List, ℕ, true, drop}
use Rattle.std.specs.Prelude.{IsTrue}
use Rattle.file_tree.specs.Paths.{is_below}
use Rattle.file_tree.specs.Fixed.{jobs}
use Rattle.merge_core.specs.Recovery.{Recovers, redo}
use Rattle.recovery.proofs.Applied.{redone_by}
use Rattle.recovery.proofs.redoing.apply_all.Given as goal

abbrev pub invariant-loop-content : goal.invariant-loop-content
invariant-loop-content g l =
    (IsTrue g.T.Tree.tells → Recovers (g.T.Tree.story l.fn.tree).now.holds (redo (g.T.Tree.story l.fn.tree).now.holds) (g.T.Tree.story l.fn.tree) (g.T.Tree.story l.tree))
    × (IsTrue g.T.Tree.tells → (q : List ℕ) → is_below jobs q ≡ true → (g.T.Tree.story l.tree).now.holds q ≡ (g.T.Tree.story l.fn.tree).now.holds q)
    × (IsTrue g.T.Tree.tells → redone_by (drop l.content-index l.records) (g.T.Tree.story l.tree).now ≡ redone_by l.records (g.T.Tree.story l.fn.tree).now)
    × (g.T.Tree.faults l.fn.tree ≤ g.T.Tree.faults l.tree)
