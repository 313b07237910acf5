use Rattle.std.proofs.Common.{◌≡◌, ◌≤◌, take}
use Rattle.std.specs.Prelude.{IsTrue}
use Rattle.visible_verdicts.specs.Places.{AreJudged, ids_of}
use Rattle.visible_verdicts.proofs.reading.judge_places.Given as goal

abbrev pub invariant-loop-place : goal.invariant-loop-place
invariant-loop-place g l =
    (IsTrue g.T.Tree.tells → AreJudged (g.T.Tree.story l.fn.tree).now.holds l.rules (ids_of (take l.place-index l.places)) l.candidates.visible.items l.candidates.hidden.items)
    × (IsTrue g.T.Tree.tells → g.T.Tree.story l.tree ≡ g.T.Tree.story l.fn.tree)
    × (g.T.Tree.faults l.fn.tree ≤ g.T.Tree.faults l.tree)
