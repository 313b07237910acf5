use Rattle.std.proofs.Common.{refl}
use Rattle.merge_journal.specs.Names.{gate_path}
use Rattle.recovery.proofs.Lists.{mapped_end, mapped_more}
use Rattle.recovery.proofs.clearing.gate_paths.Goals as goal

pub loop-group-init : goal.loop-group-init
loop-group-init c = rw c.new-paths.ensures.items refl

pub loop-group-preserved : goal.loop-group-preserved
loop-group-preserved c =
    rw c.in_ok-push.ensures.items (mapped_more gate_path c.loop-group.paths.items c.args.groups.now c.loop-group.group-index c.in_ok-gate_path.field-0 _ c.loop-group-test.true c.in_ok-gate_path.ensures c.loop-group.invariant)

pub returns : goal.returns
returns c = mapped_end gate_path c.loop-group.paths.items c.args.groups.now c.loop-group.group-index _ c.loop-group-test.false c.loop-group.invariant
