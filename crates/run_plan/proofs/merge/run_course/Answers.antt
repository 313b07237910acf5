use Rattle.std.proofs.Common.{◌≡◌, ◌∙◌, List, ap, arith, refl, subst, sym}
use Rattle.file_tree.specs.declared.fault.TreeFault.TheVariants as trees
use Rattle.run_turns.specs.declared.job.Job.{Job}
use Rattle.run_plan.specs.Courses.{MergesGroups}
use Rattle.run_plan.specs.Merges.{MergesPlan}
use Rattle.run_plan.proofs.Joined.{merges_plan}
use Rattle.run_plan.proofs.Promised.{counted_none, never_began}
use Rattle.run_plan.proofs.Whole.{one_more}
use Rattle.run_plan.proofs.merge.run_course.Goals as goal

pub open_run-requires-clause-small : goal.open_run-requires-clause-small
open_run-requires-clause-small g c =
    let n = one_more c.args.installed.now c.args.plan.now c.args.task.jobs.items c.args.course.groups.items c.requires.course.groups in
    omega (arith, n, c.requires.small)

pub returns-in-Ok : goal.returns-in-Ok
returns-in-Ok g c =
    let B = g.B.Builder in
    let S = g.S.Sink in
    let T = g.T.Tree in
    let plan = c.args.plan.now in
    let ps = c.args.installed.now in
    let task = c.args.task in
    let old = c.args.pool.now in
    let pool = c.merge_groups-end.new.pool in
    let begun = c.in-Ok.site in
    let last = c.merge_groups-end.new.site in
    let start = c.args.course.progress in
    let progress = c.merge_groups-end.new.progress in
    let before = c.merge_groups-end.result in
    let o = c.in-Ok.ensures in
    let e = c.close.ensures in
    let merges = subst (λ (js : List Job). MergesGroups T S B plan js c.args.course.places begun last old pool start progress before) c.deref.ensures.value c.merge_groups-end.ensures in
    subst (λ x. MergesPlan T S B ps plan task c.args.tree c.args.sink old pool x) (sym e.rest)
    (merges_plan T S B ps plan task c.args.tree c.args.sink old pool c.args.course begun last progress before c.close.result.end c.close.result.tree c.requires.earlier c.requires.course
    o.under_way o.opened o.book o.groups o.tree o.sink merges e.went e.end e.count e.rose)

pub returns : goal.returns
returns g c =
    let e = c.unmerged.ensures in
    let r = c.unmerged.result in
    let back = c.in-Err.ensures.back in
    never_began g.T.Tree g.S.Sink g.B.Builder c.args.installed.now c.args.plan.now c.args.task c.args.tree c.args.sink c.args.pool.now c.args.pool.now r
    trees.Memory c.requires.rest (λ t. ap g.T.Tree.story (e.tree ∙ back.0)) (counted_none g.T.Tree.faults c.args.tree r.tree (trees.Memory ≡ trees.Failed) (e.tree ∙ back.0) (λ is. cc is)) (e.sink ∙ back.1) refl e.machine e.end e.history e.acknowledged
