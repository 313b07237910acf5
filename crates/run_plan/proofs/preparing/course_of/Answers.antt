use Rattle.std.proofs.Common.{rules}
use Rattle.run_plan.proofs.preparing.course_of.Goals as goal

pub returns-clause-course : goal.returns-clause-course
returns-clause-course g c = record {
  places = search rules;
  groups = search rules;
  held = c.in_ok-held.ensures.held;
  history = search rules;
  acknowledged = search rules;
  room = search rules;
  more = search rules;
}
