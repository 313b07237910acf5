use Rattle.std.proofs.Common.{◌≡◌, ◌<◌, ℕ, ◌++◌, ◌∷◌, ◌∙◌, [], append-nil, append_assoc, arith, length, refl, subst, sym, true}
use Rattle.std.specs.Prelude.{IfErr}
use Rattle.std.proofs.lemmas.Result.{err_from_is_err_and}
use Rattle.basics.proofs.Each.{all-push}
use Rattle.merge_group.specs.Working.{HasStaged, standing_at}
use Rattle.merge_group.specs.declared.stop.Stop.TheVariants as stops
use Rattle.merge_group.proofs.Stopped.{stage_quiet}
use Rattle.merge_group.proofs.Staged.{building_on, early_stage, staged_on}
use Rattle.merge_group.proofs.Worked.{works_start, works_then}
use Rattle.std.proofs.lemmas.Iterator.Adapters.{YieldsList-from_vec}
use Rattle.std.proofs.lemmas.Iterator.Consumers.{YieldsList-turn}
use Rattle.merge_site.specs.Booking.{wish_for, wishes_at}
use Rattle.merge_fit.specs.Images.{is_good}
use Rattle.merge_group.proofs.Caused.{front_push, rows_kept, stage_stops, wished_on}
use Rattle.merge_group.proofs.staging.stage_all.Goals as goal

pub loop-file-init : goal.loop-file-init
loop-file-init g c = (
  works_start c.args.group c.args.site.now,
  refl,
  c.requires.at,
  (λ before has. subst (λ l. HasStaged l (standing_at c.args.site.now c.args.group)) (sym (append-nil before)) has),
  refl,
  omega arith,
  tt,
  refl,
  sym (append-nil _),
  refl,
)

pub loop-file-preserved : goal.loop-file-preserved
loop-file-preserved g c =
    let i = c.loop-file.invariant in
    let long : c.into_iter-file-iterator.result.rest.len ≡ length c.args.files.items = cc in
    let known = YieldsList-from_vec c.args.files.items c.into_iter-file-iterator.ensures.into_iter_gives.0 long in
    let t = YieldsList-turn known c.loop-file.yielded _ c.loop-file.yielded_by c.next.result c.next.new.self c.in-Some.file c.in-Some.is c.next.ensures.steps in
    let e = early_stage c.stage.result c.loop-file.site c.stage.new.self c.in-Some.file (wish_for c.args.owner c.args.folder c.in-Some.file) c.args.group i.2 c.stage.ensures.ok c.stage.ensures.failed c.stage.ensures.kept c.stage.ensures.wishes c.stage.ensures.unwished in (
      works_then c.args.group c.args.site.now c.loop-file.site c.stage.new.self i.0 e.works,
      e.order ∙ i.1,
      building_on c.loop-file.site c.stage.new.self c.in-Some.file c.args.group i.2 c.in_ok-stage.ensures.ok,
      (λ before has. subst (λ l. HasStaged l (standing_at c.stage.new.self c.args.group)) (append_assoc before c.loop-file.yielded (c.in-Some.file ∷ []))
          (staged_on c.loop-file.site c.stage.new.self (before ++ c.loop-file.yielded) c.in-Some.file c.args.group (i.3 before has) c.in_ok-stage.ensures.ok)),
      c.stage.ensures.sink ∙ i.4,
      omega (arith, i.5, c.stage.ensures.faults.later),
      all-push (λ x. is_good x ≡ true) c.loop-file.yielded c.in-Some.file i.6 c.in_ok-stage.ensures.taken.good,
      front_push c.args.files.items c.loop-file.yielded c.in-Some.file i.7 t.0 t.1,
      wished_on c.loop-file.site.wishes c.stage.new.self.wishes c.args.group c.args.owner c.args.folder (wishes_at c.args.site.now.wishes c.args.group) c.loop-file.yielded c.in-Some.file (subst (λ (n : ℕ). c.args.group < n) (sym i.9) c.requires.row) c.in_ok-stage.ensures.wishes i.8,
      rows_kept c.loop-file.site.wishes c.stage.new.self.wishes c.args.group (wish_for c.args.owner c.args.folder c.in-Some.file) c.in_ok-stage.ensures.wishes ∙ i.9,
    )

pub returns-in_err-stage-clause-works : goal.returns-in_err-stage-clause-works
returns-in_err-stage-clause-works g c =
    let i = c.loop-file.invariant in
    let e = early_stage c.stage.result c.loop-file.site c.stage.new.self c.in-Some.file (wish_for c.args.owner c.args.folder c.in-Some.file) c.args.group i.2 c.stage.ensures.ok c.stage.ensures.failed c.stage.ensures.kept c.stage.ensures.wishes c.stage.ensures.unwished in
    works_then c.args.group c.args.site.now c.loop-file.site c.stage.new.self i.0 e.works

pub returns-in_err-stage-clause-early : goal.returns-in_err-stage-clause-early
returns-in_err-stage-clause-early g c =
    let i = c.loop-file.invariant in
    (early_stage c.stage.result c.loop-file.site c.stage.new.self c.in-Some.file (wish_for c.args.owner c.args.folder c.in-Some.file) c.args.group i.2 c.stage.ensures.ok c.stage.ensures.failed c.stage.ensures.kept c.stage.ensures.wishes c.stage.ensures.unwished).early

pub returns-in_err-stage-clause-quiet : goal.returns-in_err-stage-clause-quiet
returns-in_err-stage-clause-quiet g c =
    let p = err_from_is_err_and c.from_residual.result c.from_residual.ensures.1 in
    subst (λ r. IfErr r (λ e. e ≡ stops.Output → ⊥)) (sym p.1) (λ x. stage_quiet _ (sym p.2 ∙ x))

pub returns-in_err-stage-clause-cause : goal.returns-in_err-stage-clause-cause
returns-in_err-stage-clause-cause g c before has =
    let p = err_from_is_err_and c.from_residual.result c.from_residual.ensures.1 in
    let i = c.loop-file.invariant in
    let long : c.into_iter-file-iterator.result.rest.len ≡ length c.args.files.items = cc in
    let known = YieldsList-from_vec c.args.files.items c.into_iter-file-iterator.ensures.into_iter_gives.0 long in
    let t = YieldsList-turn known c.loop-file.yielded _ c.loop-file.yielded_by c.next.result c.next.new.self c.in-Some.file c.in-Some.is c.next.ensures.steps in
    rw (p.1, p.2) (stage_stops c.in_err-stage.field-0.0 c.loop-file.site c.args.group before c.args.files.items c.loop-file.yielded c.in-Some.file (i.3 before has) i.6 i.7 t.0 t.1 c.in_err-stage.ensures.refused)
