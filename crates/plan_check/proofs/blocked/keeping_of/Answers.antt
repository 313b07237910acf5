use Rattle.std.proofs.Common.{Some, ap}
use Rattle.pkg_state.specs.Package.{Package}
use Rattle.plan_check.proofs.blocked.keeping_of.Goals as goal

pub returns : goal.returns
returns c = record {
  stretch = c.stretch_of.ensures;
  blocks = c.in_ok-blocks.ensures;
  flags = ap (λ (q : Package). q.facts.enabled) c.pkg.view_is;
  line_is = ap Some c.in_ok-line.ensures;
}
