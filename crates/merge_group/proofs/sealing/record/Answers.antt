use Rattle.std.proofs.Common.{◌≡◌, ◌∙◌, Err, ap, refl, sym, subst}
use Rattle.std.specs.Prelude.{IfErr}
use Rattle.std.proofs.lemmas.Result.{err_from_is_err_and}
use Rattle.merge_group.specs.declared.stop.Stop.TheVariants as stops
use Rattle.merge_group.proofs.Stopped.{site_quiet}
use Rattle.merge_core.specs.Event.{PutRecord}
use Rattle.merge_core.specs.CoreValue.{machine_of}
use Rattle.merge_core.specs.declared.phase.Phase.TheVariants as phases
use Rattle.merge_core.proofs.Standings.{set_here}
use Rattle.merge_group.proofs.Staged.{early_record, recorded_is}
use Rattle.merge_group.proofs.Worked.{at_after}
use Rattle.merge_group.proofs.Caused.{record_stops}
use Rattle.merge_group.proofs.sealing.record.Goals as goal

pub returns-in_err-put_record-clause-works : goal.returns-in_err-put_record-clause-works
returns-in_err-put_record-clause-works g c =
    let one = early_record c.put_record.result c.args.site.now c.put_record.new.self c.args.group c.args.removals.items c.requires.at c.put_record.ensures.ok c.put_record.ensures.failed c.put_record.ensures.refused in
    one.works

pub returns-in_err-put_record-clause-early : goal.returns-in_err-put_record-clause-early
returns-in_err-put_record-clause-early g c =
    let one = early_record c.put_record.result c.args.site.now c.put_record.new.self c.args.group c.args.removals.items c.requires.at c.put_record.ensures.ok c.put_record.ensures.failed c.put_record.ensures.refused in
    one.early

pub returns-clause-works : goal.returns-clause-works
returns-clause-works g c =
    let one = early_record c.put_record.result c.args.site.now c.put_record.new.self c.args.group c.args.removals.items c.requires.at c.put_record.ensures.ok c.put_record.ensures.failed c.put_record.ensures.refused in
    one.works

pub returns-clause-early : goal.returns-clause-early
returns-clause-early g c =
    let one = early_record c.put_record.result c.args.site.now c.put_record.new.self c.args.group c.args.removals.items c.requires.at c.put_record.ensures.ok c.put_record.ensures.failed c.put_record.ensures.refused in
    one.early

pub returns-clause-at : goal.returns-clause-at
returns-clause-at g c =
    at_after c.args.site.now c.put_record.new.self c.args.group (PutRecord c.args.group c.args.removals.items) phases.Recorded _ c.in_ok-put_record.ensures.ok c.requires.at.running refl (set_here (machine_of c.args.site.now.keeping).roll c.args.group _) refl

pub returns-clause-group : goal.returns-clause-group
returns-clause-group g c =
    λ x has is. recorded_is c.args.site.now c.put_record.new.self x c.args.group c.args.removals.items is has c.in_ok-put_record.ensures.ok

pub returns-in_err-put_record-clause-quiet : goal.returns-in_err-put_record-clause-quiet
returns-in_err-put_record-clause-quiet g c =
    let p = err_from_is_err_and c.from_residual.result c.from_residual.ensures.1 in
    subst (λ r. IfErr r (λ e. e ≡ stops.Output → ⊥)) (sym p.1) (λ x. site_quiet _ (sym p.2 ∙ x))

pub returns-in_err-put_record-clause-cause : goal.returns-in_err-put_record-clause-cause
returns-in_err-put_record-clause-cause g c x has is =
    let p = err_from_is_err_and c.from_residual.result c.from_residual.ensures.1 in
    rw (p.1, p.2) (record_stops c.in_err-put_record.field-0.0 c.args.site.now x c.args.group c.args.removals.items is has (λ e. c.in_err-put_record.ensures.limit (ap Err e)))

pub returns-clause-wishes : goal.returns-clause-wishes
returns-clause-wishes g c = c.in_ok-put_record.ensures.ok.wishes refl
