use Rattle.std.proofs.Common.{◌≡◌, ◌++◌, drop, map}
use Rattle.dep_atom.specs.Values.{atom_value}
use Rattle.dep_tree.specs.View.{trees_view}
use Rattle.plan_law.specs.Firm.{direct}
use Rattle.plan_lives.proofs.firm.direct.Given as goal

abbrev pub invariant-loop-node : goal.invariant-loop-node
invariant-loop-node l = map (λ atom. atom_value atom.now) l.atoms.items ++ direct (trees_view (drop l.node-index l.nodes)) ≡ direct (trees_view l.nodes)
