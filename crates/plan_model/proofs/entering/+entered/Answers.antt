use Rattle.std.proofs.Common.{◌+◌, List, arith, subst, sym}
use Rattle.pms_names.specs.Flags.{has}
use Rattle.dep_tree.specs.declared.tree.Node.{Node}
use Rattle.plan_model.proofs.Enter.{AreEntering, all_copied, none_entered, one_entered}
use Rattle.plan_model.proofs.entering.+entered.Goals as goal

pub entered_all-loop-node-init : goal.entered_all-loop-node-init
entered_all-loop-node-init t c =
    subst (λ (ns : List Node). AreEntering (has c.args.on.now) c.args.binds.now c.args.nodes.now 0 ns c.args.binds.now) (sym c.in_ok-copies.ensures.items) (none_entered (has c.args.on.now) c.args.binds.now c.args.nodes.now)

pub entered_all-loop-node-preserved : goal.entered_all-loop-node-preserved
entered_all-loop-node-preserved t c =
    subst (λ (ns : List Node). AreEntering (has c.args.on.now) c.args.binds.now c.args.nodes.now (c.loop-node.node-index + 1) ns c.in_ok-copy.behind.now) (sym c.in_ok-push.ensures.items)
    (one_entered (has c.args.on.now) c.args.binds.now c.args.nodes.now c.loop-node.node-index c.loop-node.copies.items c.loop-node.rest.now c.in_ok-copy.behind.now c.node-item.result c.in_ok-copy.copy (omega arith) c.node-item.is c.loop-node.invariant c.in_ok-copy.ensures.node c.in_ok-copy.ensures.left)

pub entered_all-returns-clause-nodes : goal.entered_all-returns-clause-nodes
entered_all-returns-clause-nodes t c = all_copied (has c.args.on.now) c.args.binds.now c.args.nodes.now c.loop-node.node-index c.loop-node.copies.items c.loop-node.rest.now (omega arith) c.loop-node.invariant
