use Rattle.std.proofs.Common.{arith, refl, ap, map}
use Rattle.plan_text.specs.Drafts.{current_group, whole_groups}
use Rattle.plan_text.specs.Plans.{group_value}
use Rattle.plan_text.specs.Reading.{line_value}
use Rattle.plan_text.specs.Standing.{standing_value}
use Rattle.plan_text.proofs.Reached.{all_read, one_step, stops_here, texts}
use Rattle.plan_text.proofs.Steps.{begins}
use Rattle.plan_text.proofs.parse.read_lines.Goals as goal

pub loop-at-init : goal.loop-at-init
loop-at-init c = begins (texts c.args.texts.now) (map group_value c.new.result.items) (ap (map group_value) c.new.ensures.items)

pub returns-in_default-clause-fault : goal.returns-in_default-clause-fault
returns-in_default-clause-fault c = λ known.
    stops_here c.args.texts.now c.loop-at.at _ (standing_value c.loop-at.standing) (whole_groups c.loop-at.draft) (current_group c.loop-at.draft) c.loop-at-test.true c.loop-at.invariant (rw c.in_default.is at c.in_ok-line.ensures) c.fault_at.result c.fault_at.ensures

pub with_line-requires-clause-fits : goal.with_line-requires-clause-fits
with_line-requires-clause-fits c = c.loop-at.invariant.holds.fits

pub with_line-requires-clause-count : goal.with_line-requires-clause-count
with_line-requires-clause-count c = c.loop-at.invariant.holds.count

pub loop-at-preserved : goal.loop-at-preserved
loop-at-preserved c =
    one_step c.args.texts.now c.loop-at.at _ (standing_value c.loop-at.standing) (standing_value c.behind-next.result) (whole_groups c.loop-at.draft) (whole_groups c.in_ok-draft.draft) (current_group c.loop-at.draft) (current_group c.in_ok-draft.draft) (line_value c.in-Some.line)
    c.loop-at-test.true c.loop-at.invariant (rw c.in-Some.is at c.in_ok-line.ensures) c.behind-next.ensures c.in_ok-draft.ensures

pub returns-clause-found : goal.returns-clause-found
returns-clause-found c = record {
  stands = standing_value c.loop-at.standing;
  to = all_read c.args.texts.now c.loop-at.at (standing_value c.loop-at.standing) (whole_groups c.loop-at.draft) (current_group c.loop-at.draft) c.loop-at-test.false (omega (arith, c.loop-at.auto.at-end)) c.loop-at.invariant;
  groups = refl;
  place = refl;
}
