use Rattle.std.proofs.Common.{◌≡◌, drop, map}
use Rattle.std.specs.List.{find}
use Rattle.dep_atom.specs.Values.{atom_value}
use Rattle.choice_law.specs.Tree.{wanted}
use Rattle.choice_tree.specs.Open.{is_open_of}
use Rattle.choice_tree.specs.Seen.{places_of}
use Rattle.choice_walk.proofs.taking_up.first_wanted.Given as goal

abbrev pub invariant-loop-atom : goal.invariant-loop-atom
invariant-loop-atom l =
    find (λ a. is_open_of (places_of l.around.places.now) (wanted a)) (map atom_value (drop l.atom-index l.atoms)) ≡ find (λ a. is_open_of (places_of l.around.places.now) (wanted a)) (map atom_value l.atoms)
