use Rattle.std.proofs.Common.{◌≡◌, ℕ, Bool, drop, get_or}
use Rattle.std.specs.List.{list_any}
use Rattle.dep_atom.specs.Values.{atom_value}
use Rattle.choice_tree.specs.Places.{no_place}
use Rattle.choice_tree.specs.Seen.{places_of}
use Rattle.choice_walk.specs.Possible.{may_match}
use Rattle.choice_walk.proofs.possible.any_may_match.Given as goal

abbrev pub invariant-loop-line : goal.invariant-loop-line
invariant-loop-line l =
    let test : ℕ → Bool = λ (k : ℕ). may_match (atom_value l.atom) l.asker (get_or (places_of l.places) k no_place) in
    list_any test (drop l.line-index l.lines) ≡ list_any test l.lines
