use Rattle.std.proofs.Common.{◌≡◌, ◌++◌, drop, map}
use Rattle.dep_atom.specs.Values.{atom_value}
use Rattle.pms_names.specs.Flags.{has}
use Rattle.dep_tree.specs.Truth.{is_fact, kind}
use Rattle.dep_tree.specs.View.{trees_view}
use Rattle.choice_law.specs.Blame.{each_blamed, first_blamed}
use Rattle.choice_walk.proofs.blame.+blame.Given as goal

abbrev pub invariant-push_first_blamed-loop-node : goal.invariant-push_first_blamed-loop-node
invariant-push_first_blamed-loop-node g l = map (λ atom. atom_value atom.now) l.out.items ++ first_blamed l.empty_holds kind (is_fact (g.P.Present.facts l.present) l.asker) (has l.asker) (trees_view (drop l.node-index l.nodes)) ≡ map (λ atom. atom_value atom.now) l.fn.out.items ++ first_blamed l.empty_holds kind (is_fact (g.P.Present.facts l.present) l.asker) (has l.asker) (trees_view l.nodes)

abbrev pub invariant-push_each_blamed-loop-node : goal.invariant-push_each_blamed-loop-node
invariant-push_each_blamed-loop-node g l = map (λ atom. atom_value atom.now) l.out.items ++ each_blamed l.empty_holds kind (is_fact (g.P.Present.facts l.present) l.asker) (has l.asker) (trees_view (drop l.node-index l.nodes)) ≡ map (λ atom. atom_value atom.now) l.fn.out.items ++ each_blamed l.empty_holds kind (is_fact (g.P.Present.facts l.present) l.asker) (has l.asker) (trees_view l.nodes)
