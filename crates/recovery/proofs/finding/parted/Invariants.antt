use Rattle.std.proofs.Common.{◌≡◌, ◌≤◌, ◌++◌, drop, not}
use Rattle.std.specs.Prelude.{IsTrue, filter}
use Rattle.merge_journal.specs.Names.{gate_path}
use Rattle.merge_journal.specs.Open.{is_open}
use Rattle.recovery.proofs.finding.parted.Given as goal

abbrev pub invariant-loop-group : goal.invariant-loop-group
invariant-loop-group g l =
    (IsTrue g.T.Tree.tells → l.opened.items ++ filter (λ h. is_open ((g.T.Tree.story l.fn.tree).now.holds (gate_path h))) (drop l.group-index l.groups) ≡ filter (λ h. is_open ((g.T.Tree.story l.fn.tree).now.holds (gate_path h))) l.groups)
    × (IsTrue g.T.Tree.tells → l.odd.items ++ filter (λ h. not (is_open ((g.T.Tree.story l.fn.tree).now.holds (gate_path h)))) (drop l.group-index l.groups) ≡ filter (λ h. not (is_open ((g.T.Tree.story l.fn.tree).now.holds (gate_path h)))) l.groups)
    × (IsTrue g.T.Tree.tells → g.T.Tree.story l.tree ≡ g.T.Tree.story l.fn.tree)
    × (g.T.Tree.faults l.fn.tree ≤ g.T.Tree.faults l.tree)
