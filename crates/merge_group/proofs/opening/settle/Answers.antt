use Rattle.std.proofs.Common.{refl, sym}
use Rattle.std.specs.Prelude.{is_ok}
use Rattle.merge_core.specs.Event.{SyncPlaced}
use Rattle.merge_core.specs.CoreValue.{machine_of}
use Rattle.merge_core.specs.declared.phase.Phase.TheVariants as phases
use Rattle.merge_core.specs.declared.step.Step.TheVariants as steps
use Rattle.merge_core.proofs.Standings.{set_here}
use Rattle.merge_group.proofs.Worked.{at_after, group_kept, step_worked, taken_at}
use Rattle.merge_group.proofs.opening.settle.Goals as goal

pub returns-in_err-sync_placed-clause-works : goal.returns-in_err-sync_placed-clause-works
returns-in_err-sync_placed-clause-works g c =
    let taken = taken_at c.args.site.now.keeping c.args.group steps.SyncPlaced phases.Open c.requires.at refl (sym c.requires.placed, sym c.requires.removed) in
    step_worked c.args.site.now c.sync_placed.new.self c.args.group steps.SyncPlaced (is_ok c.sync_placed.result) taken c.sync_placed.ensures.event

pub returns-in_err-sync_placed-clause-group : goal.returns-in_err-sync_placed-clause-group
returns-in_err-sync_placed-clause-group g c =
    group_kept c.args.site.now c.sync_placed.new.self (SyncPlaced c.args.group) (is_ok c.sync_placed.result) c.sync_placed.ensures.event refl

pub returns-clause-works : goal.returns-clause-works
returns-clause-works g c =
    let taken = taken_at c.args.site.now.keeping c.args.group steps.SyncPlaced phases.Open c.requires.at refl (sym c.requires.placed, sym c.requires.removed) in
    step_worked c.args.site.now c.sync_placed.new.self c.args.group steps.SyncPlaced (is_ok c.sync_placed.result) taken c.sync_placed.ensures.event

pub returns-clause-at : goal.returns-clause-at
returns-clause-at g c =
    at_after c.args.site.now c.sync_placed.new.self c.args.group (SyncPlaced c.args.group) phases.Placed _ c.in_ok-sync_placed.ensures.event c.requires.at.running refl (set_here (machine_of c.args.site.now.keeping).roll c.args.group _) refl

pub returns-clause-group : goal.returns-clause-group
returns-clause-group g c =
    group_kept c.args.site.now c.sync_placed.new.self (SyncPlaced c.args.group) (is_ok c.sync_placed.result) c.sync_placed.ensures.event refl
