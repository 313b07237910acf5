use Rattle.std.proofs.Common.{◌<◌, ◌∙◌, ap, length, refl, subst, sym}
use Rattle.merge_core.specs.Phase.{is_live}
use Rattle.merge_core.specs.Roll.{Standing}
use Rattle.merge_site.specs.Booking.{is_over, wishes_at}
use Rattle.merge_group.specs.Causes.{StopsChanges}
use Rattle.merge_group.specs.Working.{is_staged, stood_at}
use Rattle.merge_group.specs.Granted.{changes_in}
use Rattle.merge_group.proofs.Granted.{may_before, stops_before}
use Rattle.merge_group.proofs.Settling.{owners_same}
use Rattle.merge_group.proofs.Rest.{ends_shut, ok_if}
use Rattle.merge_group.proofs.Went.{not_opened}
use Rattle.merge_group.proofs.Worked.{works_then}
use Rattle.std.proofs.lemmas.Result.{err_from_is_err_and, on_ok_weaker}
use Rattle.merge_group.proofs.Caused.{err_weaker, plain_cause, record_cause, staged_cause}
use Rattle.merge_group.proofs.merging.build.Goals as goal

pub returns-in_err-stage_packages-clause-works : goal.returns-in_err-stage_packages-clause-works
returns-in_err-stage_packages-clause-works g c = works_then c.args.group c.args.site.now c.begin.new.site c.stage_packages.new.site c.begin.ensures.works c.stage_packages.ensures.works

pub returns-in_err-record-clause-works : goal.returns-in_err-record-clause-works
returns-in_err-record-clause-works g c =
    let one = works_then c.args.group c.args.site.now c.begin.new.site c.stage_packages.new.site c.begin.ensures.works c.stage_packages.ensures.works in
    works_then c.args.group c.args.site.now c.stage_packages.new.site c.record.new.site one c.record.ensures.works

pub returns-in_err-mark-clause-works : goal.returns-in_err-mark-clause-works
returns-in_err-mark-clause-works g c =
    let one = works_then c.args.group c.args.site.now c.begin.new.site c.stage_packages.new.site c.begin.ensures.works c.stage_packages.ensures.works in
    let two = works_then c.args.group c.args.site.now c.stage_packages.new.site c.record.new.site one c.record.ensures.works in
    works_then c.args.group c.args.site.now c.record.new.site c.mark.new.site two c.mark.ensures.works

pub returns-clause-works : goal.returns-clause-works
returns-clause-works g c =
    let one = works_then c.args.group c.args.site.now c.begin.new.site c.stage_packages.new.site c.begin.ensures.works c.stage_packages.ensures.works in
    let two = works_then c.args.group c.args.site.now c.stage_packages.new.site c.record.new.site one c.record.ensures.works in
    let three = works_then c.args.group c.args.site.now c.record.new.site c.mark.new.site two c.mark.ensures.works in
    works_then c.args.group c.args.site.now c.mark.new.site c.claim.new.site three c.claim.ensures.claims.works

pub returns-clause-group : goal.returns-clause-group
returns-clause-group g c =
    ok_if c.claim.result (c.claim.ensures.claims.group ∙ (c.mark.ensures.group ∙ c.in_ok-record.ensures.group (changes_in c.args.removals.items c.args.packages.items) c.in_ok-stage_packages.ensures.staged refl))

pub returns-in_err-stage_packages-clause-shut : goal.returns-in_err-stage_packages-clause-shut
returns-in_err-stage_packages-clause-shut g c = ends_shut _ c.stage_packages.ensures.early

pub returns-in_err-stage_packages-clause-unopened : goal.returns-in_err-stage_packages-clause-unopened
returns-in_err-stage_packages-clause-unopened g c = not_opened _ c.stage_packages.ensures.early

pub returns-in_err-record-clause-shut : goal.returns-in_err-record-clause-shut
returns-in_err-record-clause-shut g c = ends_shut _ c.record.ensures.early

pub returns-in_err-record-clause-unopened : goal.returns-in_err-record-clause-unopened
returns-in_err-record-clause-unopened g c = not_opened _ c.record.ensures.early

pub returns-in_err-mark-clause-shut : goal.returns-in_err-mark-clause-shut
returns-in_err-mark-clause-shut g c = ends_shut _ c.mark.ensures.early

pub returns-in_err-mark-clause-unopened : goal.returns-in_err-mark-clause-unopened
returns-in_err-mark-clause-unopened g c = not_opened _ c.mark.ensures.early

pub returns-clause-wishes : goal.returns-clause-wishes
returns-clause-wishes g c =
    ok_if c.claim.result ((c.claim.ensures.claims.works.wishes.mine (ap is_staged c.in_ok-mark.ensures.at.phase)).1
    ∙ (ap (λ l. wishes_at l c.args.group) (c.in_ok-mark.ensures.wishes ∙ c.in_ok-record.ensures.wishes) ∙ c.in_ok-stage_packages.ensures.wishes))

pub returns-clause-cause : goal.returns-clause-cause
returns-clause-cause g c =
    let one = works_then c.args.group c.args.site.now c.begin.new.site c.stage_packages.new.site c.begin.ensures.works c.stage_packages.ensures.works in
    let two = works_then c.args.group c.args.site.now c.stage_packages.new.site c.record.new.site one c.record.ensures.works in
    let three = works_then c.args.group c.args.site.now c.record.new.site c.mark.new.site two c.mark.ensures.works in
    let order = c.mark.ensures.order ∙ (c.record.ensures.order ∙ (c.stage_packages.ensures.order ∙ c.begin.ensures.order)) in
    let owners = owners_same c.args.group c.args.site.now c.mark.new.site three c.promise.ensures.booked c.promise-2.ensures.booked (ap is_over c.requires.taken.phase) (ap is_over c.in_ok-mark.ensures.at.phase) in
    err_weaker (StopsChanges g.T.Tree.tells (stood_at (g.T.Tree.story c.mark.new.site.opened).now.holds c.mark.new.site) c.mark.new.site.book c.mark.new.site.groups (changes_in c.args.removals.items c.args.packages.items) c.args.group)
    (StopsChanges g.T.Tree.tells (stood_at (g.T.Tree.story c.args.site.now.opened).now.holds c.args.site.now) c.args.site.now.book c.args.site.now.groups (changes_in c.args.removals.items c.args.packages.items) c.args.group)
    (λ e h. stops_before g.T.Tree.tells (λ o. (g.T.Tree.story o).now.holds) c.args.group c.args.site.now c.mark.new.site (changes_in c.args.removals.items c.args.packages.items) e three order owners h) c.claim.result
    (c.claim.ensures.cause (changes_in c.args.removals.items c.args.packages.items) (record {
      changed = c.mark.ensures.group ∙ c.in_ok-record.ensures.group (changes_in c.args.removals.items c.args.packages.items) c.in_ok-stage_packages.ensures.staged refl;
      wished = ap (λ l. wishes_at l c.args.group) (c.in_ok-mark.ensures.wishes ∙ c.in_ok-record.ensures.wishes) ∙ c.in_ok-stage_packages.ensures.wishes;
      good = c.in_ok-stage_packages.ensures.good;
      alone = λ h other. ap (λ (s : Standing). is_live s.phase) (three.others h other) ∙ c.requires.alone h other;
    }))

pub returns-clause-let_in : goal.returns-clause-let_in
returns-clause-let_in g c t =
    let one = works_then c.args.group c.args.site.now c.begin.new.site c.stage_packages.new.site c.begin.ensures.works c.stage_packages.ensures.works in
    let two = works_then c.args.group c.args.site.now c.stage_packages.new.site c.record.new.site one c.record.ensures.works in
    let three = works_then c.args.group c.args.site.now c.record.new.site c.mark.new.site two c.mark.ensures.works in
    let order = c.mark.ensures.order ∙ (c.record.ensures.order ∙ (c.stage_packages.ensures.order ∙ c.begin.ensures.order)) in
    let owners = owners_same c.args.group c.args.site.now c.mark.new.site three c.promise.ensures.booked c.promise-2.ensures.booked (ap is_over c.requires.taken.phase) (ap is_over c.in_ok-mark.ensures.at.phase) in
    on_ok_weaker c.claim.result (λ may. may_before (λ o. (g.T.Tree.story o).now.holds) c.args.group c.args.site.now c.mark.new.site (changes_in c.args.removals.items c.args.packages.items) three order owners may)
    (c.claim.ensures.granted (changes_in c.args.removals.items c.args.packages.items) (record {
      changed = c.mark.ensures.group ∙ c.in_ok-record.ensures.group (changes_in c.args.removals.items c.args.packages.items) c.in_ok-stage_packages.ensures.staged refl;
      wished = ap (λ l. wishes_at l c.args.group) (c.in_ok-mark.ensures.wishes ∙ c.in_ok-record.ensures.wishes) ∙ c.in_ok-stage_packages.ensures.wishes;
      good = c.in_ok-stage_packages.ensures.good;
      alone = λ h other. ap (λ (s : Standing). is_live s.phase) (three.others h other) ∙ c.requires.alone h other;
    }) t)

pub stage_packages-requires-clause-row : goal.stage_packages-requires-clause-row
stage_packages-requires-clause-row g c = subst (λ l. c.args.group < length l) (sym c.begin.ensures.wishes) c.requires.row

pub stage_packages-requires-clause-unwished : goal.stage_packages-requires-clause-unwished
stage_packages-requires-clause-unwished g c = ap (λ l. wishes_at l c.args.group) c.begin.ensures.wishes ∙ c.requires.unwished

pub returns-in_err-stage_packages-clause-cause : goal.returns-in_err-stage_packages-clause-cause
returns-in_err-stage_packages-clause-cause g c =
    let p = err_from_is_err_and c.from_residual.result c.from_residual.ensures.1 in
    rw (p.1, p.2) (staged_cause g.T.Tree.tells (stood_at (g.T.Tree.story c.args.site.now.opened).now.holds c.args.site.now) c.args.site.now.book c.args.site.now.groups (changes_in c.args.removals.items c.args.packages.items) c.args.group _ c.in_err-stage_packages.ensures.cause)

pub returns-in_err-record-clause-cause : goal.returns-in_err-record-clause-cause
returns-in_err-record-clause-cause g c =
    let p = err_from_is_err_and c.from_residual-in_err-record.result c.from_residual-in_err-record.ensures.1 in
    rw (p.1, p.2) (record_cause g.T.Tree.tells (stood_at (g.T.Tree.story c.args.site.now.opened).now.holds c.args.site.now) c.args.site.now.book c.args.site.now.groups (changes_in c.args.removals.items c.args.packages.items) c.args.group _
    (c.in_err-record.ensures.cause (changes_in c.args.removals.items c.args.packages.items) c.in_ok-stage_packages.ensures.staged refl))

pub returns-in_err-mark-clause-cause : goal.returns-in_err-mark-clause-cause
returns-in_err-mark-clause-cause g c =
    let p = err_from_is_err_and c.from_residual-in_err-mark.result c.from_residual-in_err-mark.ensures.1 in
    rw (p.1, p.2) (plain_cause g.T.Tree.tells (stood_at (g.T.Tree.story c.args.site.now.opened).now.holds c.args.site.now) c.args.site.now.book c.args.site.now.groups (changes_in c.args.removals.items c.args.packages.items) c.args.group _ c.in_err-mark.ensures.plain)
