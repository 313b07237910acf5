use Rattle.std.proofs.Common.{◌≡◌, ℕ, Bool, drop, get_or}
use Rattle.std.specs.List.{list_any}
use Rattle.dep_atom.specs.Values.{atom_value}
use Rattle.choice_tree.specs.Open.{decides}
use Rattle.choice_tree.specs.Places.{no_place}
use Rattle.choice_tree.specs.Seen.{places_of}
use Rattle.choice_tree.proofs.places.any_decides.Given as goal

abbrev pub invariant-loop-line : goal.invariant-loop-line
invariant-loop-line l =
    let test : ℕ → Bool = λ (k : ℕ). decides (atom_value l.atom) (get_or (places_of l.places) k no_place) in
    list_any test (drop l.line-index l.lines) ≡ list_any test l.lines
