use Rattle.std.proofs.Common.{◌≡◌, ◌++◌, drop, map}
use Rattle.std.specs.List.{flat_map}
use Rattle.dep_atom.specs.Values.{atom_value}
use Rattle.choice_tree.specs.Seen.{places_of}
use Rattle.merge_edges.specs.Found.{as_line, best_in, needed_lines}
use Rattle.merge_edges.proofs.needs.needed_lines.Given as goal

abbrev pub invariant-loop-leaf : goal.invariant-loop-leaf
invariant-loop-leaf l = l.lines.items ++ flat_map (λ a. as_line (best_in (places_of l.around.places.now) a l.pkg.facts.enabled)) (map (λ a. atom_value a.now) (drop l.leaf-index l.leaf-items)) ≡ needed_lines (places_of l.around.places.now) l.fn.class l.pkg
