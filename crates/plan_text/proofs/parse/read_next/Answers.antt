use Rattle.std.proofs.Common.{◌∙◌, sym}
use Rattle.plan_text.specs.Reading.{line_value}
use Rattle.plan_text.specs.Standing.{standing_value}
use Rattle.plan_text.proofs.Reached.{next_stops}
use Rattle.plan_text.proofs.parse.read_next.Goals as goal

pub returns-then-not-follows : goal.returns-then-not-follows
returns-then-not-follows c =
    next_stops (standing_value c.args.standing.now) c.args.text.now (line_value c.in-Some.line) (rw c.in-Some.is at c.in_ok-line.ensures) (sym c.follows.ensures ∙ c.if-not-follows.true)
