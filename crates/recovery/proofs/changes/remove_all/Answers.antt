use Rattle.std.proofs.Common.{◌<◌, ◌∙◌, ap, arith, length, add-one, refl, suc}
use Rattle.file_tree.specs.Disk.{Story}
use Rattle.recovery.proofs.Asked.{asked_step, asked_whole}
use Rattle.recovery.proofs.Stages.{removed_step}
use Rattle.recovery.proofs.changes.remove_all.Goals as goal

pub loop-path-init : goal.loop-path-init
loop-path-init g c = ((λ t. refl), omega arith, λ t new asked. asked)

pub loop-path-preserved : goal.loop-path-preserved
loop-path-preserved g c =
    let lt : c.loop-path.path-index < length c.args.removals.now = omega arith in
    rw add-one (
      λ t.
          let wrote = ap (λ (s : Story). s.now) (c.in_ok-remove.ensures.ok t) in
          removed_step c.loop-path.path-index c.args.removals.now c.path-item.result _ _ lt c.path-item.is wrote ∙ c.loop-path.invariant.0 t,
      omega (arith, c.loop-path.invariant.1, c.remove.ensures.faults.later),
      λ t. asked_step c.loop-path.path-index c.args.removals.now c.path-item.result (g.T.Tree.story c.args.tree.now) (g.T.Tree.story c.loop-path.tree) (g.T.Tree.story c.remove.new.self) lt c.path-item.is (c.loop-path.invariant.2 t) (c.remove.ensures.moved t),
    )

pub returns-in_err-remove-clause-asked : goal.returns-in_err-remove-clause-asked
returns-in_err-remove-clause-asked g c t =
    let lt : c.loop-path.path-index < length c.args.removals.now = omega arith in
    asked_whole (suc c.loop-path.path-index) c.args.removals.now (g.T.Tree.story c.args.tree.now) (g.T.Tree.story c.remove.new.self)
    (asked_step c.loop-path.path-index c.args.removals.now c.path-item.result (g.T.Tree.story c.args.tree.now) (g.T.Tree.story c.loop-path.tree) (g.T.Tree.story c.remove.new.self) lt c.path-item.is (c.loop-path.invariant.2 t) (c.remove.ensures.moved t))

pub returns-clause-asked : goal.returns-clause-asked
returns-clause-asked g c t = asked_whole c.loop-path.path-index c.args.removals.now (g.T.Tree.story c.args.tree.now) (g.T.Tree.story c.loop-path.tree) (c.loop-path.invariant.2 t)
