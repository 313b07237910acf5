use Rattle.std.proofs.Common.{List, length, subst}
use Rattle.vdb_law.specs.Packages.{Installed}
use Rattle.plan_law.specs.Plans.{Group}
use Rattle.run_plan.specs.Merges.{MergesPlan}
use Rattle.emerge_run.specs.Collisions.{ids_with}
use Rattle.emerge_run.specs.Refusals.{IsStatusOf}
use Rattle.emerge_run.proofs.Promises.{merges_task}
use Rattle.emerge_run.proofs.merging.merge_ready.Goals as goal

pub returns : goal.returns
returns g c =
    let T = g.T.Tree in
    let S = g.S.Sink in
    let B = g.B.Builder in
    let r = c.merge_plan-tree.result in
    let ps : List Installed = c.args.opening.items in
    let plan : List Group = c.args.plan in
    let task = c.args.task in
    let s = c.status_of_end-status.result in
    let run = subst (λ (qs : List Installed). MergesPlan T S B qs plan task c.args.tree c.args.out c.args.pool c.merge_plan-tree.new.pool r) c.deref.ensures.value c.merge_plan-tree.ensures in
    let is = subst (λ (gs : List Group). IsStatusOf (ids_with ps gs) (length gs) r.end s) c.groups.ensures.groups
    (subst (λ (qs : List Installed). IsStatusOf (ids_with qs c.groups.result.now) (length c.groups.result.now) r.end s) c.deref-2.ensures.value c.status_of_end-status.ensures) in
    merges_task T S B c.args.opening plan task c.args.tree c.args.out c.args.pool c.merge_plan-tree.new.pool c.requires.task r s is run
