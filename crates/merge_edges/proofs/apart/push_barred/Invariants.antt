use Rattle.std.proofs.Common.{◌≡◌, ◌++◌, List, drop, map, true}
use Rattle.std.specs.List.{flat_map}
use Rattle.dep_atom.specs.Values.{AtomValue, atom_value}
use Rattle.choice_tree.specs.Seen.{places_of}
use Rattle.merge_graph.specs.declared.edge.Edge.{Edge}
use Rattle.merge_edges.specs.Found.{barred_edges, edges_to, hit_lines, other_lines}
use Rattle.merge_edges.proofs.apart.push_barred.Given as goal

abbrev pub invariant-loop-atom : goal.invariant-loop-atom
invariant-loop-atom l =
    let f : AtomValue → List Edge = λ (a : AtomValue). edges_to l.line true (other_lines l.line (hit_lines (places_of l.before.places.now) l.comer.facts.enabled a)) in
    l.out.items ++ flat_map f (map (λ a. atom_value a.now) (drop l.atom-index l.atom-items)) ≡ l.fn.out.items ++ barred_edges (places_of l.before.places.now) l.line l.comer
