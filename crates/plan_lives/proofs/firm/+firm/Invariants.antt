use Rattle.std.proofs.Common.{◌↔◌, drop}
use Rattle.dep_tree.specs.View.{trees_view}
use Rattle.pms_names.specs.Flags.{has}
use Rattle.plan_law.specs.Firm.{AreFirm, HasFirm}
use Rattle.plan_lives.specs.Gathered.{Chained}
use Rattle.plan_lives.proofs.firm.+firm.Given as goal

abbrev pub invariant-all_firm-loop-node : goal.invariant-all_firm-loop-node
invariant-all_firm-loop-node l = AreFirm l.empty_holds (Chained l.index l.stretch l.asker) (has l.asker) (trees_view (drop l.node-index l.nodes)) ↔ AreFirm l.empty_holds (Chained l.index l.stretch l.asker) (has l.asker) (trees_view l.nodes)

abbrev pub invariant-has_firm-loop-node : goal.invariant-has_firm-loop-node
invariant-has_firm-loop-node l = HasFirm l.empty_holds (Chained l.index l.stretch l.asker) (has l.asker) (trees_view (drop l.node-index l.nodes)) ↔ HasFirm l.empty_holds (Chained l.index l.stretch l.asker) (has l.asker) (trees_view l.nodes)
