use Rattle.std.proofs.Common.{◌≡◌, Bool, drop, map}
use Rattle.std.specs.List.{list_any}
use Rattle.dep_atom.specs.Values.{AtomValue, atom_value}
use Rattle.choice_law.specs.Reasons.{can_match}
use Rattle.choice_tree.specs.Views.{offer_of}
use Rattle.choice_walk.proofs.reasons.any_can_match.Given as goal

abbrev pub invariant-loop-atom : goal.invariant-loop-atom
invariant-loop-atom l =
    let test : AtomValue → Bool = λ a. can_match a l.asker (offer_of l.offer) in
    list_any test (map (λ a. atom_value a.now) (drop l.atom-index l.atoms)) ≡ list_any test (map (λ a. atom_value a.now) l.atoms)
