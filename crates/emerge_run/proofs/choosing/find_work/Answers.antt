use Rattle.std.proofs.Common.{◌∙◌, Result, ap, refl, subst, sym}
use Rattle.std.specs.Prelude.{IsErrAnd, Vec}
use Rattle.std.specs.Global.{Global}
use Rattle.vdb_law.specs.Packages.{Installed}
use Rattle.run_opening.specs.Faults.{HasTooMuch}
use Rattle.file_tree.specs.declared.fault.TreeFault.TheVariants as trees
use Rattle.emerge_find.specs.Ends.{IsDeviceFailure}
use Rattle.emerge_find.specs.declared.ends.NoPlan.{NoPlan}
use Rattle.emerge_find.specs.declared.ends.NoPlan.TheVariants as ends
use Rattle.emerge_find.specs.declared.found.Found.{Found}
use Rattle.emerge_run.specs.Openings.{AreInstalled}
use Rattle.emerge_run.specs.Refusals.{status_of}
use Rattle.merge_report.specs.declared.status.Status.TheVariants as status
use Rattle.emerge_run.proofs.Found.{plan_early, plan_failed, plan_no_usage, plan_unread}
use Rattle.emerge_run.proofs.Givens.{gives_all, gives_refused, installed}
use Rattle.emerge_run.proofs.Promises.{counts_for, finds_none, finds_this}
use Rattle.emerge_run.proofs.choosing.find_work.Goals as goal

pub returns-in-Ok-work_of : goal.returns-in-Ok-work_of
returns-in-Ok-work_of g c =
    let e = c.in-Ok.ensures in
    finds_this g.T.Tree c.args.asked c.args.tree.now c.find_plan.new.tree c.find_plan.ensures.same c.in-Ok.found c.in-Ok-work_of.work e.found e.owners e.unclaimed c.in-Ok-work_of.ensures.work c.find_plan.ensures.faults.later

pub returns-in-Ok : goal.returns-in-Ok
returns-in-Ok g c =
    let T = g.T.Tree in
    let asked = c.args.asked in
    let old = c.args.tree.now in
    let m = (T.story old).now.holds in
    let seen = c.over.result in
    let packages = ap (λ (v : Vec Installed Global). v.items) c.over.ensures.opening in
    finds_none T asked old c.find_plan.new.tree c.find_plan.ensures.same seen status.Memory c.over.ensures.answer (λ t. (ends.Tree trees.Memory, tt, refl)) tt (λ f e. cc e) (record { later = c.find_plan.ensures.faults.later; rose = λ e. absurd (cc e) })
    (λ t. gives_all (AreInstalled m) (HasTooMuch m) status.Memory seen.opening.items (subst (AreInstalled m) (sym packages) (installed m asked c.in-Ok.found (c.in-Ok.ensures.found t)))) (λ of. absurd of)

pub returns : goal.returns
returns g c =
    let T = g.T.Tree in
    let asked = c.args.asked in
    let old = c.args.tree.now in
    let new = c.find_plan.new.tree in
    let end = c.in-Err.end in
    let seen = c.unplanned.result in
    let packages = c.unplanned.ensures.opening in
    let refuses = c.in-Err.ensures.refused in
    finds_none T asked old new c.find_plan.ensures.same seen (status_of end) c.unplanned.ensures.answer (λ t. (end, refuses t, refl)) (plan_early end) (plan_no_usage end)
    (counts_for _ _ (T.faults old) (T.faults new) (λ failed. subst (λ (r : Result Found NoPlan). IsErrAnd r IsDeviceFailure) (sym c.in-Err.is) (plan_failed end failed)) c.find_plan.ensures.faults)
    (λ t. gives_refused (T.story old).now.holds asked end seen.opening.items (refuses t) packages) (λ of. packages ∙ plan_unread end of)
