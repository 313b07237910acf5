use Rattle.std.specs.Prelude.{codes, string_bytes}
use Rattle.plan_text.proofs.Pieces.{print_end, print_step}
use Rattle.plan_text.proofs.plan.Plan.print.Goals as goal

pub loop-at-preserved : goal.loop-at-preserved
loop-at-preserved c =
    print_step (codes "plan 1\n") (string_bytes c.loop-at.out) (string_bytes c.push_group.new.out) c.deref-group-items.result.now c.loop-at.at _ c.group-item.result c.loop-at-test.true c.loop-at.invariant c.group-item.is c.in_ok-push_group.ensures

pub returns : goal.returns
returns c = print_end (string_bytes c.loop-at.out) c.deref-group-items.result.now c.args.self.now.groups.items c.loop-at.at c.loop-at-test.false c.deref-group-items.ensures.value c.loop-at.invariant
