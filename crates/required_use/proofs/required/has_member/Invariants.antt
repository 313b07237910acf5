use Rattle.std.proofs.Common.{◌≡◌, drop}
use Rattle.dep_group.specs.Trees.{has_member}
use Rattle.pms_names.specs.Flags.{has}
use Rattle.required_use.specs.Grammar.{kind}
use Rattle.required_use.specs.View.{trees_view}
use Rattle.required_use.proofs.required.has_member.Given as goal

abbrev pub invariant-loop-node : goal.invariant-loop-node
invariant-loop-node l = has_member kind (has l.enabled) (trees_view (drop l.node-index l.nodes)) ≡ has_member kind (has l.enabled) (trees_view l.nodes)
