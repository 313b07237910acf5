use Rattle.std.proofs.Common.{◌≡◌, ◌≤◌, [], drop}
use Rattle.std.specs.Prelude.{IsTrue}
use Rattle.merge_journal.specs.Judging.{AreApplicable, judged_all}
use Rattle.merge_journal.proofs.Verdicts.{with_front}
use Rattle.merge_journal.proofs.judging.judge_all.Given as goal

abbrev pub invariant-loop-group : goal.invariant-loop-group
invariant-loop-group g l =
    (IsTrue g.T.Tree.tells → g.T.Tree.story l.tree ≡ g.T.Tree.story l.initial.tree)
    × (g.T.Tree.faults l.initial.tree ≤ g.T.Tree.faults l.tree)
    × (IsTrue g.T.Tree.tells → with_front l.records.items (judged_all (g.T.Tree.story l.initial.tree).now.holds l.taken (drop l.group-index l.groups)) ≡ judged_all (g.T.Tree.story l.initial.tree).now.holds [] l.groups)
    × AreApplicable l.records.items
