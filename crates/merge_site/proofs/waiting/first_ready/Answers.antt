use Rattle.std.proofs.Common.{arith, refl}
use Rattle.merge_site.proofs.Ready.{none_ready}
use Rattle.merge_site.proofs.waiting.first_ready.Goals as goal

pub returns-then-is_ready : goal.returns-then-is_ready
returns-then-is_ready c = record { is = c.if-is_ready.ensures.ready refl; least = c.loop-group.invariant }

pub returns : goal.returns
returns c = none_ready c.args.core.now c.args.groups.now c.loop-group.group (omega (arith, c.requires, c.groups-group-end.ensures, c.loop-group-test.false)) c.loop-group.invariant
