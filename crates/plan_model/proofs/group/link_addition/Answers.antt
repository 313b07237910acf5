use Rattle.plan_model.proofs.Ruling.{all_known}
use Rattle.plan_model.proofs.group.link_addition.Goals as goal

pub returns-clause-brings : goal.returns-clause-brings
returns-clause-brings c = record {
  p = c.in-Some.pkg.now;
  first = c.in-Some.ensures;
  known = all_known c.args.g c.args.addition.now c.in-Some.pkg.now c.in_ok-judge_flags.ensures;
  comes = c.in_ok-entering.ensures;
}
