use Rattle.std.proofs.Common.{◌≡◌, ◌∙◌, refl, sym, subst}
use Rattle.std.specs.Prelude.{IfErr, is_ok}
use Rattle.std.proofs.lemmas.Result.{err_from_is_err_and}
use Rattle.merge_group.specs.declared.stop.Stop.TheVariants as stops
use Rattle.merge_group.proofs.Stopped.{tree_quiet}
use Rattle.merge_core.specs.Event.{PutToken, SyncSealed}
use Rattle.merge_core.specs.CoreValue.{machine_of}
use Rattle.merge_core.specs.declared.phase.Phase.TheVariants as phases
use Rattle.merge_core.specs.declared.step.Step.TheVariants as steps
use Rattle.merge_core.proofs.Standings.{set_here}
use Rattle.merge_group.proofs.Staged.{early_token}
use Rattle.merge_group.proofs.Worked.{at_after, early_on, group_kept, step_worked, taken_at, works_then}
use Rattle.merge_group.specs.Causes.{IsPlain}
use Rattle.merge_group.proofs.sealing.mark.Goals as goal

pub returns-in_err-put_token-clause-works : goal.returns-in_err-put_token-clause-works
returns-in_err-put_token-clause-works g c =
    let one = early_token c.put_token.result c.args.site.now c.put_token.new.self c.args.group c.requires.at c.put_token.ensures.event c.put_token.ensures.memory in
    one.early.works

pub returns-in_err-put_token-clause-group : goal.returns-in_err-put_token-clause-group
returns-in_err-put_token-clause-group g c =
    let one = early_token c.put_token.result c.args.site.now c.put_token.new.self c.args.group c.requires.at c.put_token.ensures.event c.put_token.ensures.memory in
    one.group

pub returns-in_err-put_token-clause-early : goal.returns-in_err-put_token-clause-early
returns-in_err-put_token-clause-early g c =
    let one = early_token c.put_token.result c.args.site.now c.put_token.new.self c.args.group c.requires.at c.put_token.ensures.event c.put_token.ensures.memory in
    one.early.early

pub sync_sealed-requires : goal.sync_sealed-requires
sync_sealed-requires g c =
    let first = at_after c.args.site.now c.put_token.new.self c.args.group (PutToken c.args.group) phases.Marked _ (c.in_ok-put_token.ensures.event (λ e. cc e)) c.requires.at.running refl (set_here (machine_of c.args.site.now.keeping).roll c.args.group _) refl in
    record { taken = (taken_at c.put_token.new.self.keeping c.args.group steps.SyncSealed phases.Marked first refl tt) }

pub returns-in_err-sync_sealed-clause-works : goal.returns-in_err-sync_sealed-clause-works
returns-in_err-sync_sealed-clause-works g c =
    let one = early_token c.put_token.result c.args.site.now c.put_token.new.self c.args.group c.requires.at c.put_token.ensures.event c.put_token.ensures.memory in
    let first = at_after c.args.site.now c.put_token.new.self c.args.group (PutToken c.args.group) phases.Marked _ (c.in_ok-put_token.ensures.event (λ e. cc e)) c.requires.at.running refl (set_here (machine_of c.args.site.now.keeping).roll c.args.group _) refl in
    works_then c.args.group c.args.site.now c.put_token.new.self c.sync_sealed.new.self one.early.works (step_worked c.put_token.new.self c.sync_sealed.new.self c.args.group steps.SyncSealed (is_ok c.sync_sealed.result) (taken_at c.put_token.new.self.keeping c.args.group steps.SyncSealed phases.Marked first refl tt) c.sync_sealed.ensures.event)

pub returns-in_err-sync_sealed-clause-group : goal.returns-in_err-sync_sealed-clause-group
returns-in_err-sync_sealed-clause-group g c =
    let one = early_token c.put_token.result c.args.site.now c.put_token.new.self c.args.group c.requires.at c.put_token.ensures.event c.put_token.ensures.memory in
    group_kept c.put_token.new.self c.sync_sealed.new.self (SyncSealed c.args.group) (is_ok c.sync_sealed.result) c.sync_sealed.ensures.event refl ∙ one.group

pub returns-in_err-sync_sealed-clause-early : goal.returns-in_err-sync_sealed-clause-early
returns-in_err-sync_sealed-clause-early g c =
    let first = at_after c.args.site.now c.put_token.new.self c.args.group (PutToken c.args.group) phases.Marked _ (c.in_ok-put_token.ensures.event (λ e. cc e)) c.requires.at.running refl (set_here (machine_of c.args.site.now.keeping).roll c.args.group _) refl in
    early_on c.put_token.new.self c.sync_sealed.new.self (SyncSealed c.args.group) (is_ok c.sync_sealed.result) c.sync_sealed.ensures.event first.phase refl

pub returns-clause-works : goal.returns-clause-works
returns-clause-works g c =
    let one = early_token c.put_token.result c.args.site.now c.put_token.new.self c.args.group c.requires.at c.put_token.ensures.event c.put_token.ensures.memory in
    let first = at_after c.args.site.now c.put_token.new.self c.args.group (PutToken c.args.group) phases.Marked _ (c.in_ok-put_token.ensures.event (λ e. cc e)) c.requires.at.running refl (set_here (machine_of c.args.site.now.keeping).roll c.args.group _) refl in
    works_then c.args.group c.args.site.now c.put_token.new.self c.sync_sealed.new.self one.early.works (step_worked c.put_token.new.self c.sync_sealed.new.self c.args.group steps.SyncSealed (is_ok c.sync_sealed.result) (taken_at c.put_token.new.self.keeping c.args.group steps.SyncSealed phases.Marked first refl tt) c.sync_sealed.ensures.event)

pub returns-clause-at : goal.returns-clause-at
returns-clause-at g c =
    let first = at_after c.args.site.now c.put_token.new.self c.args.group (PutToken c.args.group) phases.Marked _ (c.in_ok-put_token.ensures.event (λ e. cc e)) c.requires.at.running refl (set_here (machine_of c.args.site.now.keeping).roll c.args.group _) refl in
    at_after c.put_token.new.self c.sync_sealed.new.self c.args.group (SyncSealed c.args.group) phases.Sealed _ c.in_ok-sync_sealed.ensures.event first.running refl (set_here (machine_of c.put_token.new.self.keeping).roll c.args.group _) refl

pub returns-clause-group : goal.returns-clause-group
returns-clause-group g c =
    let one = early_token c.put_token.result c.args.site.now c.put_token.new.self c.args.group c.requires.at c.put_token.ensures.event c.put_token.ensures.memory in
    group_kept c.put_token.new.self c.sync_sealed.new.self (SyncSealed c.args.group) (is_ok c.sync_sealed.result) c.sync_sealed.ensures.event refl ∙ one.group

pub returns-clause-early : goal.returns-clause-early
returns-clause-early g c =
    let first = at_after c.args.site.now c.put_token.new.self c.args.group (PutToken c.args.group) phases.Marked _ (c.in_ok-put_token.ensures.event (λ e. cc e)) c.requires.at.running refl (set_here (machine_of c.args.site.now.keeping).roll c.args.group _) refl in
    early_on c.put_token.new.self c.sync_sealed.new.self (SyncSealed c.args.group) (is_ok c.sync_sealed.result) c.sync_sealed.ensures.event first.phase refl

pub returns-in_err-put_token-clause-quiet : goal.returns-in_err-put_token-clause-quiet
returns-in_err-put_token-clause-quiet g c =
    let p = err_from_is_err_and c.from_residual.result c.from_residual.ensures.1 in
    subst (λ r. IfErr r (λ e. e ≡ stops.Output → ⊥)) (sym p.1) (λ x. tree_quiet _ (sym p.2 ∙ x))

pub returns-in_err-put_token-clause-plain : goal.returns-in_err-put_token-clause-plain
returns-in_err-put_token-clause-plain g c =
    let p = err_from_is_err_and c.from_residual.result c.from_residual.ensures.1 in
    subst (λ r. IfErr r IsPlain) (sym p.1) (subst IsPlain (sym p.2) tt)

pub returns-clause-wishes : goal.returns-clause-wishes
returns-clause-wishes g c = c.in_ok-sync_sealed.ensures.event.wishes refl ∙ (c.in_ok-put_token.ensures.event (λ e. cc e)).wishes refl
