use Rattle.plan_text.specs.Drafts.{whole_groups}
use Rattle.plan_text.specs.Plans.{group_value}
use Rattle.plan_text.specs.Reading.{line_value}
use Rattle.plan_text.specs.Standing.{standing_value}
use Rattle.plan_text.proofs.Steps.{inner_added}
use Rattle.plan_text.proofs.draft.with_inner.Goals as goal

pub returns : goal.returns
returns c =
    rw c.in-Some.is (inner_added (standing_value c.args.standing.now) (line_value c.args.line) (whole_groups c.args.draft) (group_value c.in-Some.group) (group_value c.in_ok-group.group) (rw c.in-Some.is at c.requires.count) c.requires.inner c.in_ok-group.ensures.lines c.in_ok-group.ensures.fits)
