use Rattle.std.proofs.Common.{◌≡◌, ◌++◌, List, drop, map}
use Rattle.std.specs.List.{flat_map}
use Rattle.dep_atom.specs.Values.{AtomValue, atom_value}
use Rattle.choice_tree.specs.Seen.{places_of}
use Rattle.merge_graph.specs.declared.edge.Edge.{Edge}
use Rattle.merge_edges.specs.Found.{edges_from, guarded_edges, hit_comers}
use Rattle.merge_edges.proofs.apart.push_guarded.Given as goal

abbrev pub invariant-loop-atom : goal.invariant-loop-atom
invariant-loop-atom l =
    let f : AtomValue → List Edge = λ (a : AtomValue). edges_from l.own (hit_comers (places_of l.after.places.now) l.goer.facts.enabled a) in
    l.out.items ++ flat_map f (map (λ a. atom_value a.now) (drop l.atom-index l.atom-items)) ≡ l.fn.out.items ++ guarded_edges (places_of l.after.places.now) l.own l.goer
