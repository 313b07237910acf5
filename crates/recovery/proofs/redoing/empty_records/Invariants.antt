use Rattle.std.proofs.Common.{◌≡◌, ◌≤◌, drop, map}
use Rattle.std.specs.Prelude.{IsTrue}
use Rattle.merge_journal.specs.Names.{record_path}
use Rattle.recovery.proofs.Asked.{AskedOn}
use Rattle.recovery.specs.Calls.{emptied}
use Rattle.recovery.proofs.redoing.empty_records.Given as goal

abbrev pub invariant-loop-group : goal.invariant-loop-group
invariant-loop-group g l =
    (IsTrue g.T.Tree.tells → AskedOn (map record_path l.groups) l.group-index (g.T.Tree.story l.fn.tree) (g.T.Tree.story l.tree))
    × (IsTrue g.T.Tree.tells → emptied (drop l.group-index l.groups) (g.T.Tree.story l.tree).now ≡ emptied l.groups (g.T.Tree.story l.fn.tree).now)
    × (g.T.Tree.faults l.fn.tree ≤ g.T.Tree.faults l.tree)
