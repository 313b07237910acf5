use Rattle.std.proofs.Common.{refl}
use Rattle.std.specs.Prelude.{is_ok}
use Rattle.merge_core.specs.Event.{Acknowledge}
use Rattle.merge_core.specs.declared.phase.Phase.TheVariants as phases
use Rattle.merge_core.specs.declared.step.Step.TheVariants as steps
use Rattle.merge_group.proofs.Told.{part_written, told_at, told_shut, whole_written}
use Rattle.merge_group.proofs.Worked.{group_kept, step_worked, taken_at}
use Rattle.merge_group.proofs.telling.tell.Goals as goal

pub returns-in-Ok-clause-works : goal.returns-in-Ok-clause-works
returns-in-Ok-clause-works g c =
    step_worked c.args.site.now c.acknowledge.new.self c.args.group steps.Acknowledge (is_ok c.acknowledge.result) (taken_at c.args.site.now.keeping c.args.group steps.Acknowledge phases.Done c.requires.at refl tt) c.acknowledge.ensures.event

pub returns-in-Ok-clause-group : goal.returns-in-Ok-clause-group
returns-in-Ok-clause-group g c =
    group_kept c.args.site.now c.acknowledge.new.self (Acknowledge c.args.group) (is_ok c.acknowledge.result) c.acknowledge.ensures.event refl

pub returns-in-Ok-clause-shut : goal.returns-in-Ok-clause-shut
returns-in-Ok-clause-shut g c =
    told_shut c.args.site.now c.acknowledge.new.self c.args.group (is_ok c.acknowledge.result) c.requires.at c.acknowledge.ensures.event

pub returns-in-Ok-clause-part : goal.returns-in-Ok-clause-part
returns-in-Ok-clause-part g c =
    λ t. part_written c.args.site.now.groups c.args.group (is_ok c.acknowledge.result) (g.S.Sink.written c.args.site.now.sink) (g.S.Sink.written c.acknowledge.new.self.sink) c.requires.there (c.acknowledge.ensures.writes t)

pub returns-in-Err-clause-works : goal.returns-in-Err-clause-works
returns-in-Err-clause-works g c =
    step_worked c.args.site.now c.acknowledge.new.self c.args.group steps.Acknowledge (is_ok c.acknowledge.result) (taken_at c.args.site.now.keeping c.args.group steps.Acknowledge phases.Done c.requires.at refl tt) c.acknowledge.ensures.event

pub returns-in-Err-clause-group : goal.returns-in-Err-clause-group
returns-in-Err-clause-group g c =
    group_kept c.args.site.now c.acknowledge.new.self (Acknowledge c.args.group) (is_ok c.acknowledge.result) c.acknowledge.ensures.event refl

pub returns-in-Err-clause-shut : goal.returns-in-Err-clause-shut
returns-in-Err-clause-shut g c =
    told_shut c.args.site.now c.acknowledge.new.self c.args.group (is_ok c.acknowledge.result) c.requires.at c.acknowledge.ensures.event

pub returns-in-Err-clause-part : goal.returns-in-Err-clause-part
returns-in-Err-clause-part g c =
    λ t. part_written c.args.site.now.groups c.args.group (is_ok c.acknowledge.result) (g.S.Sink.written c.args.site.now.sink) (g.S.Sink.written c.acknowledge.new.self.sink) c.requires.there (c.acknowledge.ensures.writes t)

pub returns-in-Ok-clause-written : goal.returns-in-Ok-clause-written
returns-in-Ok-clause-written g c =
    λ t. whole_written c.args.site.now.groups c.args.group (g.S.Sink.written c.args.site.now.sink) (g.S.Sink.written c.acknowledge.new.self.sink) c.requires.there (c.in-Ok.ensures.writes t)

pub returns-in-Ok-clause-at : goal.returns-in-Ok-clause-at
returns-in-Ok-clause-at g c = told_at c.args.site.now c.acknowledge.new.self c.args.group c.requires.at c.in-Ok.ensures.event
