use Rattle.std.proofs.Common.{◌∙◌, add-one, ap, arith, map, suc}
use Rattle.file_tree.specs.Disk.{Story}
use Rattle.merge_journal.specs.Names.{record_path}
use Rattle.recovery.proofs.Asked.{asked_whole}
use Rattle.recovery.proofs.Steps.{emptied_step, records_asked}
use Rattle.recovery.proofs.redoing.empty_records.Goals as goal

pub returns-in_err-path-clause-asked : goal.returns-in_err-path-clause-asked
returns-in_err-path-clause-asked g c t = asked_whole c.loop-group.group-index (map record_path c.args.groups.now) (g.T.Tree.story c.args.tree.now) (g.T.Tree.story c.loop-group.tree) (c.loop-group.invariant.0 t)

pub returns-in_err-object-clause-asked : goal.returns-in_err-object-clause-asked
returns-in_err-object-clause-asked g c t = asked_whole c.loop-group.group-index (map record_path c.args.groups.now) (g.T.Tree.story c.args.tree.now) (g.T.Tree.story c.loop-group.tree) (c.loop-group.invariant.0 t)

pub returns-in_err-put-clause-asked : goal.returns-in_err-put-clause-asked
returns-in_err-put-clause-asked g c t =
    asked_whole (suc c.loop-group.group-index) (map record_path c.args.groups.now) (g.T.Tree.story c.args.tree.now) (g.T.Tree.story c.put.new.self)
    (records_asked c.loop-group.group-index c.args.groups.now c.in_ok-path.path (g.T.Tree.story c.args.tree.now) (g.T.Tree.story c.loop-group.tree) (g.T.Tree.story c.put.new.self) c.loop-group-test.true c.in_ok-path.ensures (c.loop-group.invariant.0 t) (c.put.ensures.moved t))

pub loop-group-preserved : goal.loop-group-preserved
loop-group-preserved g c =
    rw add-one (
      λ t. records_asked c.loop-group.group-index c.args.groups.now c.in_ok-path.path (g.T.Tree.story c.args.tree.now) (g.T.Tree.story c.loop-group.tree) (g.T.Tree.story c.put.new.self) c.loop-group-test.true c.in_ok-path.ensures (c.loop-group.invariant.0 t) (c.put.ensures.moved t),
      λ t.
          let wrote = ap (λ (s : Story). s.now) (c.in_ok-put.ensures.ok t) in
          emptied_step c.loop-group.group-index c.args.groups.now c.in_ok-path.path _ _ _ c.loop-group-test.true c.in_ok-path.ensures c.in_ok-object.ensures wrote ∙ c.loop-group.invariant.1 t,
      omega (arith, c.loop-group.invariant.2, c.put.ensures.faults.later),
    )
