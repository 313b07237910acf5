use Rattle.std.proofs.Common.{◌≡◌, ◌≤◌, drop}
use Rattle.std.specs.Prelude.{IsTrue}
use Rattle.merge_journal.specs.Judging.{stages_judged}
use Rattle.merge_journal.proofs.judging.judge_stages.Given as goal

abbrev pub invariant-loop-index : goal.invariant-loop-index
invariant-loop-index g l =
    (IsTrue g.T.Tree.tells → g.T.Tree.story l.tree ≡ g.T.Tree.story l.initial.tree)
    × (g.T.Tree.faults l.initial.tree ≤ g.T.Tree.faults l.tree)
    × (IsTrue g.T.Tree.tells → stages_judged (g.T.Tree.story l.initial.tree).now.holds l.group 0 l.placements ≡ stages_judged (g.T.Tree.story l.initial.tree).now.holds l.group l.index (drop l.index l.placements))
