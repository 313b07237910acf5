use Rattle.std.proofs.Common.{◌≡◌, drop, map}
use Rattle.std.specs.List.{list_any}
use Rattle.dep_atom.specs.Values.{atom_value}
use Rattle.dep_tree.specs.Truth.{some_match}
use Rattle.pkg_state.specs.Consistent.{facts_of}
use Rattle.choice_tree.specs.Places.{packages_in}
use Rattle.choice_tree.specs.Seen.{places_of}
use Rattle.choice_tree.proofs.calm.hits_any.Given as goal

abbrev pub invariant-loop-atom : goal.invariant-loop-atom
invariant-loop-atom l =
    let test = some_match (facts_of (packages_in (places_of l.around.places.now))) l.owner.facts.enabled in
    list_any test (map (λ a. atom_value a.now) (drop l.atom-index l.atoms)) ≡ list_any test (map (λ a. atom_value a.now) l.atoms)
