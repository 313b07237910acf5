use Rattle.std.proofs.Common.{◌∙◌, ap, refl}
use Rattle.std.specs.Prelude.{is_ok}
use Rattle.merge_core.specs.Event.{OpenGate, SyncGate}
use Rattle.merge_core.specs.CoreValue.{machine_of}
use Rattle.merge_core.specs.Roll.{Standing}
use Rattle.merge_core.specs.declared.phase.Phase.TheVariants as phases
use Rattle.merge_core.specs.declared.step.Step.TheVariants as steps
use Rattle.merge_core.proofs.Standings.{set_here}
use Rattle.merge_group.proofs.Worked.{at_after, group_kept, standing_after, step_worked, taken_at, works_then}
use Rattle.merge_group.proofs.opening.open.Goals as goal

pub open_gate-requires : goal.open_gate-requires
open_gate-requires g c =
    record { taken = (taken_at c.args.site.now.keeping c.args.group steps.OpenGate phases.Claimed c.requires.at refl tt) }

pub returns-in_err-open_gate-clause-works : goal.returns-in_err-open_gate-clause-works
returns-in_err-open_gate-clause-works g c =
    (step_worked c.args.site.now c.open_gate.new.self c.args.group steps.OpenGate (is_ok c.open_gate.result) (taken_at c.args.site.now.keeping c.args.group steps.OpenGate phases.Claimed c.requires.at refl tt) c.open_gate.ensures.event)

pub returns-in_err-open_gate-clause-group : goal.returns-in_err-open_gate-clause-group
returns-in_err-open_gate-clause-group g c =
    group_kept c.args.site.now c.open_gate.new.self (OpenGate c.args.group) (is_ok c.open_gate.result) c.open_gate.ensures.event refl

pub sync_gate-requires : goal.sync_gate-requires
sync_gate-requires g c =
    let first = at_after c.args.site.now c.open_gate.new.self c.args.group (OpenGate c.args.group) phases.GatePut _ c.in_ok-open_gate.ensures.event c.requires.at.running refl (set_here (machine_of c.args.site.now.keeping).roll c.args.group _) refl in
    record { taken = (taken_at c.open_gate.new.self.keeping c.args.group steps.SyncGate phases.GatePut first refl tt) }

pub returns-in_err-sync_gate-clause-works : goal.returns-in_err-sync_gate-clause-works
returns-in_err-sync_gate-clause-works g c =
    let first = at_after c.args.site.now c.open_gate.new.self c.args.group (OpenGate c.args.group) phases.GatePut _ c.in_ok-open_gate.ensures.event c.requires.at.running refl (set_here (machine_of c.args.site.now.keeping).roll c.args.group _) refl in
    works_then c.args.group c.args.site.now c.open_gate.new.self c.sync_gate.new.self ((step_worked c.args.site.now c.open_gate.new.self c.args.group steps.OpenGate (is_ok c.open_gate.result) (taken_at c.args.site.now.keeping c.args.group steps.OpenGate phases.Claimed c.requires.at refl tt) c.open_gate.ensures.event)) (step_worked c.open_gate.new.self c.sync_gate.new.self c.args.group steps.SyncGate (is_ok c.sync_gate.result) (taken_at c.open_gate.new.self.keeping c.args.group steps.SyncGate phases.GatePut first refl tt) c.sync_gate.ensures.event)

pub returns-in_err-sync_gate-clause-group : goal.returns-in_err-sync_gate-clause-group
returns-in_err-sync_gate-clause-group g c =
    group_kept c.open_gate.new.self c.sync_gate.new.self (SyncGate c.args.group) (is_ok c.sync_gate.result) c.sync_gate.ensures.event refl ∙ (group_kept c.args.site.now c.open_gate.new.self (OpenGate c.args.group) (is_ok c.open_gate.result) c.open_gate.ensures.event refl)

pub returns-clause-works : goal.returns-clause-works
returns-clause-works g c =
    let first = at_after c.args.site.now c.open_gate.new.self c.args.group (OpenGate c.args.group) phases.GatePut _ c.in_ok-open_gate.ensures.event c.requires.at.running refl (set_here (machine_of c.args.site.now.keeping).roll c.args.group _) refl in
    works_then c.args.group c.args.site.now c.open_gate.new.self c.sync_gate.new.self ((step_worked c.args.site.now c.open_gate.new.self c.args.group steps.OpenGate (is_ok c.open_gate.result) (taken_at c.args.site.now.keeping c.args.group steps.OpenGate phases.Claimed c.requires.at refl tt) c.open_gate.ensures.event)) (step_worked c.open_gate.new.self c.sync_gate.new.self c.args.group steps.SyncGate (is_ok c.sync_gate.result) (taken_at c.open_gate.new.self.keeping c.args.group steps.SyncGate phases.GatePut first refl tt) c.sync_gate.ensures.event)

pub returns-clause-at : goal.returns-clause-at
returns-clause-at g c =
    let first = at_after c.args.site.now c.open_gate.new.self c.args.group (OpenGate c.args.group) phases.GatePut _ c.in_ok-open_gate.ensures.event c.requires.at.running refl (set_here (machine_of c.args.site.now.keeping).roll c.args.group _) refl in
    at_after c.open_gate.new.self c.sync_gate.new.self c.args.group (SyncGate c.args.group) phases.Open _ c.in_ok-sync_gate.ensures.event first.running refl (set_here (machine_of c.open_gate.new.self.keeping).roll c.args.group _) refl

pub returns-clause-placed : goal.returns-clause-placed
returns-clause-placed g c =
    ap (λ (x : Standing). x.placed) (standing_after c.open_gate.new.self c.sync_gate.new.self c.args.group (SyncGate c.args.group) _ c.in_ok-sync_gate.ensures.event (set_here (machine_of c.open_gate.new.self.keeping).roll c.args.group _))

pub returns-clause-removed : goal.returns-clause-removed
returns-clause-removed g c =
    ap (λ (x : Standing). x.removed) (standing_after c.open_gate.new.self c.sync_gate.new.self c.args.group (SyncGate c.args.group) _ c.in_ok-sync_gate.ensures.event (set_here (machine_of c.open_gate.new.self.keeping).roll c.args.group _))

pub returns-clause-group : goal.returns-clause-group
returns-clause-group g c =
    group_kept c.open_gate.new.self c.sync_gate.new.self (SyncGate c.args.group) (is_ok c.sync_gate.result) c.sync_gate.ensures.event refl ∙ (group_kept c.args.site.now c.open_gate.new.self (OpenGate c.args.group) (is_ok c.open_gate.result) c.open_gate.ensures.event refl)
