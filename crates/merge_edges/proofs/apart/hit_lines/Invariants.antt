use Rattle.std.proofs.Common.{◌≡◌, ◌++◌, drop, filter}
use Rattle.dep_atom.specs.Values.{atom_value}
use Rattle.choice_tree.specs.Seen.{places_of}
use Rattle.merge_edges.specs.Found.{is_hit}
use Rattle.merge_edges.proofs.apart.hit_lines.Given as goal

abbrev pub invariant-loop-line : goal.invariant-loop-line
invariant-loop-line l = l.hit.items ++ filter (is_hit (places_of l.around.places.now) l.asker (atom_value l.atom)) (drop l.line-index l.line-items) ≡ filter (is_hit (places_of l.around.places.now) l.asker (atom_value l.atom)) l.line-items
