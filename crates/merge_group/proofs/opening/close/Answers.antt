use Rattle.std.proofs.Common.{◌∙◌, refl}
use Rattle.std.specs.Prelude.{is_ok}
use Rattle.merge_core.specs.Event.{CloseGate, SyncClosed}
use Rattle.merge_core.specs.CoreValue.{machine_of}
use Rattle.merge_core.specs.declared.phase.Phase.TheVariants as phases
use Rattle.merge_core.specs.declared.step.Step.TheVariants as steps
use Rattle.merge_core.proofs.Standings.{set_here}
use Rattle.merge_group.proofs.Worked.{at_after, group_kept, step_worked, taken_at, works_then}
use Rattle.merge_group.proofs.opening.close.Goals as goal

pub returns-in_err-close_gate-clause-works : goal.returns-in_err-close_gate-clause-works
returns-in_err-close_gate-clause-works g c =
    step_worked c.args.site.now c.close_gate.new.self c.args.group steps.CloseGate (is_ok c.close_gate.result) (taken_at c.args.site.now.keeping c.args.group steps.CloseGate phases.Placed c.requires.at refl tt) c.close_gate.ensures.event

pub returns-in_err-close_gate-clause-group : goal.returns-in_err-close_gate-clause-group
returns-in_err-close_gate-clause-group g c =
    group_kept c.args.site.now c.close_gate.new.self (CloseGate c.args.group) (is_ok c.close_gate.result) c.close_gate.ensures.event refl

pub sync_closed-requires : goal.sync_closed-requires
sync_closed-requires g c =
    let first = at_after c.args.site.now c.close_gate.new.self c.args.group (CloseGate c.args.group) phases.GateTaken _ c.in_ok-close_gate.ensures.event c.requires.at.running refl (set_here (machine_of c.args.site.now.keeping).roll c.args.group _) refl in
    record { taken = (taken_at c.close_gate.new.self.keeping c.args.group steps.SyncClosed phases.GateTaken first refl tt) }

pub returns-in_err-sync_closed-clause-works : goal.returns-in_err-sync_closed-clause-works
returns-in_err-sync_closed-clause-works g c =
    let first = at_after c.args.site.now c.close_gate.new.self c.args.group (CloseGate c.args.group) phases.GateTaken _ c.in_ok-close_gate.ensures.event c.requires.at.running refl (set_here (machine_of c.args.site.now.keeping).roll c.args.group _) refl in
    works_then c.args.group c.args.site.now c.close_gate.new.self c.sync_closed.new.self (step_worked c.args.site.now c.close_gate.new.self c.args.group steps.CloseGate (is_ok c.close_gate.result) (taken_at c.args.site.now.keeping c.args.group steps.CloseGate phases.Placed c.requires.at refl tt) c.close_gate.ensures.event) (step_worked c.close_gate.new.self c.sync_closed.new.self c.args.group steps.SyncClosed (is_ok c.sync_closed.result) (taken_at c.close_gate.new.self.keeping c.args.group steps.SyncClosed phases.GateTaken first refl tt) c.sync_closed.ensures.event)

pub returns-in_err-sync_closed-clause-group : goal.returns-in_err-sync_closed-clause-group
returns-in_err-sync_closed-clause-group g c =
    group_kept c.close_gate.new.self c.sync_closed.new.self (SyncClosed c.args.group) (is_ok c.sync_closed.result) c.sync_closed.ensures.event refl ∙ group_kept c.args.site.now c.close_gate.new.self (CloseGate c.args.group) (is_ok c.close_gate.result) c.close_gate.ensures.event refl

pub returns-clause-works : goal.returns-clause-works
returns-clause-works g c =
    let first = at_after c.args.site.now c.close_gate.new.self c.args.group (CloseGate c.args.group) phases.GateTaken _ c.in_ok-close_gate.ensures.event c.requires.at.running refl (set_here (machine_of c.args.site.now.keeping).roll c.args.group _) refl in
    works_then c.args.group c.args.site.now c.close_gate.new.self c.sync_closed.new.self (step_worked c.args.site.now c.close_gate.new.self c.args.group steps.CloseGate (is_ok c.close_gate.result) (taken_at c.args.site.now.keeping c.args.group steps.CloseGate phases.Placed c.requires.at refl tt) c.close_gate.ensures.event) (step_worked c.close_gate.new.self c.sync_closed.new.self c.args.group steps.SyncClosed (is_ok c.sync_closed.result) (taken_at c.close_gate.new.self.keeping c.args.group steps.SyncClosed phases.GateTaken first refl tt) c.sync_closed.ensures.event)

pub returns-clause-at : goal.returns-clause-at
returns-clause-at g c =
    let first = at_after c.args.site.now c.close_gate.new.self c.args.group (CloseGate c.args.group) phases.GateTaken _ c.in_ok-close_gate.ensures.event c.requires.at.running refl (set_here (machine_of c.args.site.now.keeping).roll c.args.group _) refl in
    at_after c.close_gate.new.self c.sync_closed.new.self c.args.group (SyncClosed c.args.group) phases.Done _ c.in_ok-sync_closed.ensures.event first.running refl (set_here (machine_of c.close_gate.new.self.keeping).roll c.args.group _) refl

pub returns-clause-group : goal.returns-clause-group
returns-clause-group g c =
    group_kept c.close_gate.new.self c.sync_closed.new.self (SyncClosed c.args.group) (is_ok c.sync_closed.result) c.sync_closed.ensures.event refl ∙ group_kept c.args.site.now c.close_gate.new.self (CloseGate c.args.group) (is_ok c.close_gate.result) c.close_gate.ensures.event refl
