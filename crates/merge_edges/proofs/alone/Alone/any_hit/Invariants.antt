use Rattle.std.proofs.Common.{◌≡◌, drop}
use Rattle.std.specs.List.{list_any}
use Rattle.dep_atom.specs.Values.{atom_value}
use Rattle.choice_tree.specs.Seen.{places_of}
use Rattle.merge_edges.specs.Found.{alone_in, is_hit}
use Rattle.merge_edges.proofs.alone.Alone.any_hit.Given as goal

abbrev pub invariant-loop-line : goal.invariant-loop-line
invariant-loop-line l =
    let ss = alone_in (places_of l.self.before.now.places.now) (places_of l.self.after.now.places.now) l.self.line in
    list_any (is_hit ss l.asker (atom_value l.atom)) (drop l.line-index l.lines) ≡ list_any (is_hit ss l.asker (atom_value l.atom)) l.lines
