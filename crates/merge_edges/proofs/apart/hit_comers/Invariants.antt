use Rattle.std.proofs.Common.{◌≡◌, ◌&&◌, ◌++◌, ℕ, Bool, drop, filter}
use Rattle.dep_atom.specs.Values.{atom_value}
use Rattle.choice_law.specs.Universe.{is_new}
use Rattle.choice_tree.specs.Places.{value_in}
use Rattle.choice_tree.specs.Seen.{places_of}
use Rattle.merge_edges.specs.Found.{is_hit, place_at}
use Rattle.merge_edges.proofs.apart.hit_comers.Given as goal

abbrev pub invariant-loop-line : goal.invariant-loop-line
invariant-loop-line l =
    let test : ℕ → Bool = λ (k : ℕ). is_new (value_in (place_at (places_of l.around.places.now) k)) && is_hit (places_of l.around.places.now) l.asker (atom_value l.atom) k in
    l.hit.items ++ filter test (drop l.line-index l.line-items) ≡ filter test l.line-items
