use Rattle.pms_names.specs.Flags.{has}
use Rattle.plan_model.proofs.Enter.{AreEntering}
use Rattle.plan_model.proofs.entering.+entered.Given as goal

abbrev pub invariant-entered_all-loop-node : goal.invariant-entered_all-loop-node
invariant-entered_all-loop-node l = AreEntering (has l.on) l.binds l.nodes l.node-index l.copies.items l.rest
