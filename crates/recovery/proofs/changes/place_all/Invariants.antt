use Rattle.std.proofs.Common.{◌≡◌, ◌≤◌, ◌<◌, ℕ, drop, length, map}
use Rattle.std.specs.Prelude.{IsSome, IsTrue}
use Rattle.merge_core.specs.Recovery.{with_placed}
use Rattle.merge_journal.specs.Judging.{path_of}
use Rattle.merge_journal.specs.Names.{stage_path}
use Rattle.recovery.proofs.Asked.{AskedOn}
use Rattle.recovery.proofs.changes.place_all.Given as goal

abbrev pub invariant-loop-index : goal.invariant-loop-index
invariant-loop-index g l =
    (IsTrue g.T.Tree.tells → with_placed l.paths.group l.index (drop l.index l.placements) (g.T.Tree.story l.tree).now ≡ with_placed l.paths.group 0 l.placements (g.T.Tree.story l.fn.tree).now)
    × (IsTrue g.T.Tree.tells → (i : ℕ) → i < length l.placements → IsSome ((g.T.Tree.story l.tree).now.holds (stage_path l.paths.group i)))
    × (g.T.Tree.faults l.fn.tree ≤ g.T.Tree.faults l.tree)
    × (IsTrue g.T.Tree.tells → AskedOn (map path_of l.placements) l.index (g.T.Tree.story l.fn.tree) (g.T.Tree.story l.tree))
