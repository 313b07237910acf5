use Rattle.std.specs.Option.{option_map}
use Rattle.plan_model.proofs.asking.asked.Goals as goal

pub returns : goal.returns
returns c = record {
  found = option_map (λ p. p.now) c.find-found.result;
  first = c.find-found.ensures;
  leaves = c.in_ok-leaves.ensures;
  binds = c.list.ensures;
}
