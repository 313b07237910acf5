use Rattle.std.proofs.Common.{◌≡◌, ◌∙◌, List, Err, ap, refl, subst, sym}
use Rattle.file_tree.specs.Disk.{CountsFault, Story}
use Rattle.file_tree.specs.declared.fault.TreeFault.TheVariants as trees
use Rattle.merge_core.specs.Trail.{IsAtRest}
use Rattle.plan_law.specs.Plans.{Group}
use Rattle.run_turns.specs.Held.{HoldOwned, holdings_of}
use Rattle.run_turns.specs.Plans.{AreSiteGroups}
use Rattle.run_turns.specs.declared.job.Job.{Job}
use Rattle.run_plan.specs.Merges.{MergesPlan}
use Rattle.run_plan.proofs.Promised.{never_began, read_before}
use Rattle.run_plan.proofs.merge.merge_plan.Goals as goal

pub run_course-requires-clause-rest : goal.run_course-requires-clause-rest
run_course-requires-clause-rest g c t = subst (λ (s : Story). IsAtRest s.now.holds s.now) (sym (c.course_of.ensures.same t)) (c.requires.rest t)

pub run_course-requires-clause-course : goal.run_course-requires-clause-course
run_course-requires-clause-course g c =
    let is = c.in-Ok.ensures.course in
    let plan : List Group = c.groups-groups.result.now in
    record {
      places = is.places;
      groups = subst (λ (js : List Job). AreSiteGroups c.args.installed.now plan js c.in-Ok.course.groups.items) c.deref.ensures.value is.groups;
      held = λ t. subst (λ (s : Story). HoldOwned s.now.holds c.args.installed.now plan (holdings_of c.in-Ok.course.progress.held)) (sym (c.course_of.ensures.same t)) (is.held t);
      history = is.history;
      acknowledged = is.acknowledged;
      room = is.room;
      more = is.more;
    }

pub returns-in-Ok : goal.returns-in-Ok
returns-in-Ok g c =
    let T = g.T.Tree in
    let S = g.S.Sink in
    let B = g.B.Builder in
    let pool = c.run_course.new.pool in
    let run = c.run_course.result in
    let whole = subst (λ (plan : List Group). MergesPlan T S B c.args.installed.now plan c.args.task c.course_of.new.tree c.args.sink c.args.pool.now pool run) c.groups-groups.ensures.groups c.run_course.ensures in
    read_before T S B c.args.installed.now c.args.plan.now c.args.task c.args.tree c.args.sink c.args.pool.now pool run c.course_of.new.tree c.course_of.ensures.same c.course_of.ensures.faults.later whole

pub returns-in-Err : goal.returns-in-Err
returns-in-Err g c =
    let e = c.unmerged.ensures in
    let r = c.unmerged.result in
    let before = c.course_of.ensures in
    let counts : CountsFault (c.in-Err.fault ≡ trees.Failed) (g.T.Tree.faults c.args.tree) (g.T.Tree.faults c.course_of.new.tree) = record { later = before.faults.later; rose = λ failed. before.faults.rose (c.in-Err.is ∙ ap Err failed) } in
    never_began g.T.Tree g.S.Sink g.B.Builder c.args.installed.now c.args.plan.now c.args.task c.args.tree c.args.sink c.args.pool.now c.args.pool.now r
    c.in-Err.fault c.requires.rest (λ t. ap g.T.Tree.story e.tree ∙ before.same t) (subst (λ x. CountsFault (c.in-Err.fault ≡ trees.Failed) (g.T.Tree.faults c.args.tree) (g.T.Tree.faults x)) (sym e.tree) counts) e.sink refl e.machine e.end e.history e.acknowledged
