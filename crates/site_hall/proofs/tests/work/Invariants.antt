use Rattle.std.proofs.Common.{◌≡◌}
use Rattle.basics.specs.Members.{Has}
use Rattle.site_hall.specs.Passes.{IsOf, Rests, view_of}
use Rattle.site_hall.proofs.tests.work.Given as goal

abbrev pub invariant-loop : goal.invariant-loop
invariant-loop g l = record {
  ready : IsOf l.hall l.worker.pass × Rests l.worker.pass;
  parts : (view_of l.worker.pass).parts ≡ (view_of l.fn.worker.pass).parts;
  own : Has (view_of l.worker.pass).groups l.group;
}
