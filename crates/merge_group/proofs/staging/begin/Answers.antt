use Rattle.std.proofs.Common.{ap, refl, true}
use Rattle.merge_core.specs.Event.{Begin}
use Rattle.merge_core.specs.CoreValue.{machine_of}
use Rattle.merge_core.specs.Roll.{Standing}
use Rattle.merge_core.specs.declared.phase.Phase.TheVariants as phases
use Rattle.merge_core.specs.declared.step.Step.TheVariants as steps
use Rattle.merge_core.proofs.Standings.{set_here}
use Rattle.merge_group.proofs.Worked.{at_after, runs_if_taken, standing_after, step_worked}
use Rattle.merge_group.proofs.staging.begin.Goals as goal

pub returns-clause-works : goal.returns-clause-works
returns-clause-works g c = step_worked c.args.site.now c.begin.new.self c.args.group steps.Begin true c.requires.taken c.begin.ensures.event

pub returns-clause-at : goal.returns-clause-at
returns-clause-at g c =
    at_after c.args.site.now c.begin.new.self c.args.group (Begin c.args.group) phases.Building _ c.begin.ensures.event (runs_if_taken c.args.site.now.keeping c.args.group c.requires.taken) refl (set_here (machine_of c.args.site.now.keeping).roll c.args.group _) refl

pub returns-clause-staged : goal.returns-clause-staged
returns-clause-staged g c =
    let s = standing_after c.args.site.now c.begin.new.self c.args.group (Begin c.args.group) _ c.begin.ensures.event (set_here (machine_of c.args.site.now.keeping).roll c.args.group _) in
    record { removals = ap (λ (x : Standing). x.removals) s; placements = ap (λ (x : Standing). x.placements) s; objects = ap (λ (x : Standing). x.objects) s }

pub returns-clause-wishes : goal.returns-clause-wishes
returns-clause-wishes g c = c.begin.ensures.event.wishes refl
