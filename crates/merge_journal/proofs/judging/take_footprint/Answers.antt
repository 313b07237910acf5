use Rattle.std.proofs.Common.{ap, sym, ◌∙◌}
use Rattle.merge_record.specs.RecordValue.{RecordValue}
use Rattle.merge_journal.proofs.Verdicts.{footprint_pass, footprint_taken, number_stops, placements_stop, removals_stop}
use Rattle.merge_journal.proofs.judging.take_footprint.Goals as goal

pub returns-then-value-group-clause-answer : goal.returns-then-value-group-clause-answer
returns-then-value-group-clause-answer c =
    number_stops c.args.taken.now c.args.group c.args.value.now (λ e. c.if-value-group.true (ap (λ (r : RecordValue). r.group) c.value.view_is ∙ e))

pub returns-then-not-branch-clause-answer : goal.returns-then-not-branch-clause-answer
returns-then-not-branch-clause-answer c =
    removals_stop c.args.taken.now c.args.group c.args.value.now c.deref.result.now c.in_ok-take_paths.field-0 (c.deref.ensures.value ∙ ap (λ (r : RecordValue). r.removals) c.value.view_is) c.in_ok-take_paths.ensures.free c.if-not-branch.true

pub returns-then-not-branch-2-clause-answer : goal.returns-then-not-branch-2-clause-answer
returns-then-not-branch-2-clause-answer c =
    placements_stop c.args.taken.now c.take_paths.new.taken c.args.group c.args.value.now c.deref.result.now c.deref-2.result.now c.in_ok-take_paths.field-0 c.in_ok-take_placements.field-0
    (c.deref.ensures.value ∙ ap (λ (r : RecordValue). r.removals) c.value.view_is) (c.deref-2.ensures.value ∙ ap (λ (r : RecordValue). r.placements) c.value.view_is)
    c.in_ok-take_paths.ensures.free c.in_ok-take_paths.ensures.taken c.if-not-branch.false c.in_ok-take_placements.ensures.free c.if-not-branch-2.true

pub returns-clause-answer : goal.returns-clause-answer
returns-clause-answer c =
    footprint_pass c.args.taken.now c.take_paths.new.taken c.args.group c.args.value.now c.deref.result.now c.deref-2.result.now c.in_ok-take_paths.field-0 c.in_ok-take_placements.field-0
    (c.deref.ensures.value ∙ ap (λ (r : RecordValue). r.removals) c.value.view_is) (c.deref-2.ensures.value ∙ ap (λ (r : RecordValue). r.placements) c.value.view_is)
    (ap (λ (r : RecordValue). r.group) (sym c.value.view_is) ∙ c.if-value-group.false)
    c.in_ok-take_paths.ensures.free c.in_ok-take_paths.ensures.taken c.if-not-branch.false c.in_ok-take_placements.ensures.free c.if-not-branch-2.false

pub returns-clause-taken : goal.returns-clause-taken
returns-clause-taken c =
    footprint_taken c.args.taken.now c.take_paths.new.taken c.take_placements.new.taken c.args.value.now c.deref.result.now c.deref-2.result.now c.in_ok-take_paths.field-0 c.in_ok-take_placements.field-0
    (c.deref.ensures.value ∙ ap (λ (r : RecordValue). r.removals) c.value.view_is) (c.deref-2.ensures.value ∙ ap (λ (r : RecordValue). r.placements) c.value.view_is)
    c.in_ok-take_paths.ensures.taken c.if-not-branch.false c.in_ok-take_placements.ensures.taken c.if-not-branch-2.false
