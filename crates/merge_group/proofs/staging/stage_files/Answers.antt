use Rattle.std.proofs.Common.{◌≡◌, ◌<◌, ◌++◌, ◌∙◌, ℕ, List, ap, append_assoc, false, subst, sym, true}
use Rattle.basics.proofs.Each.{all-append}
use Rattle.merge_group.proofs.Worked.{works_then}
use Rattle.std.proofs.lemmas.Result.{err_from_is_err_and, on_ok_weaker}
use Rattle.file_tree.specs.declared.objects.Entry.{Entry}
use Rattle.merge_fit.specs.Images.{is_good}
use Rattle.merge_site.specs.Booking.{wishes_at}
use Rattle.merge_group.specs.Causes.{StopsStages}
use Rattle.merge_group.specs.Granted.{wishes_for}
use Rattle.merge_group.specs.Working.{HasStaged, standing_at}
use Rattle.merge_group.proofs.Caused.{err_weaker, stages_behind, stages_more}
use Rattle.merge_group.proofs.staging.stage_files.Goals as goal

pub returns-clause-works : goal.returns-clause-works
returns-clause-works g c =
    works_then c.args.group c.args.site.now c.stage_all.new.site c.stage_all-2.new.site c.stage_all.ensures.works c.stage_all-2.ensures.works

pub returns-clause-staged : goal.returns-clause-staged
returns-clause-staged g c before has =
    let image = c.args.files.image.items in
    let folder = c.args.files.folder.items in
    on_ok_weaker c.stage_all-2.result (λ s. subst (λ (l : List Entry). HasStaged l (standing_at c.stage_all-2.new.site c.args.group)) (append_assoc before image folder) s)
    (c.stage_all-2.ensures.staged (before ++ image) (c.in_ok-stage_all.ensures.staged before has))

pub returns-clause-cause : goal.returns-clause-cause
returns-clause-cause g c before has =
    let image = c.args.files.image.items in
    let folder = c.args.files.folder.items in
    err_weaker (StopsStages (before ++ image) folder) (StopsStages before (image ++ folder)) (λ e. stages_behind before image folder e c.in_ok-stage_all.ensures.good) c.stage_all-2.result
    (c.stage_all-2.ensures.cause (before ++ image) (c.in_ok-stage_all.ensures.staged before has))

pub returns-in_err-stage_all-clause-cause : goal.returns-in_err-stage_all-clause-cause
returns-in_err-stage_all-clause-cause g c before has =
    let p = err_from_is_err_and c.from_residual.result c.from_residual.ensures.1 in
    rw (p.1, p.2) (stages_more before c.args.files.image.items c.args.files.folder.items _ (c.in_err-stage_all.ensures.cause before has))

pub stage_all-requires-2-clause-row : goal.stage_all-requires-2-clause-row
stage_all-requires-2-clause-row g c = subst (λ (n : ℕ). c.args.group < n) (sym c.in_ok-stage_all.ensures.rows) c.requires.row

pub returns-clause-wishes : goal.returns-clause-wishes
returns-clause-wishes g c =
    let had = wishes_at c.args.site.now.wishes c.args.group in
    let image = wishes_for c.args.files.owner false c.args.files.image.items in
    let folder = wishes_for c.args.files.owner true c.args.files.folder.items in
    on_ok_weaker c.stage_all-2.result (λ e. e ∙ (ap (λ l. l ++ folder) c.in_ok-stage_all.ensures.wishes ∙ append_assoc had image folder)) c.stage_all-2.ensures.wishes

pub returns-clause-rows : goal.returns-clause-rows
returns-clause-rows g c = on_ok_weaker c.stage_all-2.result (λ e. e ∙ c.in_ok-stage_all.ensures.rows) c.stage_all-2.ensures.rows

pub returns-clause-good : goal.returns-clause-good
returns-clause-good g c =
    on_ok_weaker c.stage_all-2.result (λ more. all-append (λ x. is_good x ≡ true) c.args.files.image.items c.args.files.folder.items c.in_ok-stage_all.ensures.good more) c.stage_all-2.ensures.good
