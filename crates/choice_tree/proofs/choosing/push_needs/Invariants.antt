use Rattle.std.proofs.Common.{◌≡◌, ◌++◌, ℕ, List, drop, filter, map, not}
use Rattle.std.specs.List.{flat_map}
use Rattle.dep_atom.specs.Values.{AtomValue, atom_value}
use Rattle.choice_law.specs.Universe.{Value}
use Rattle.dep_tree.specs.Grammar.{is_block}
use Rattle.choice_tree.specs.Options.{needs, served}
use Rattle.choice_tree.specs.Seen.{places_of}
use Rattle.choice_tree.specs.Views.{decisions_of}
use Rattle.choice_tree.proofs.choosing.push_needs.Given as goal

abbrev pub invariant-loop-atom : goal.invariant-loop-atom
invariant-loop-atom l =
    let f : AtomValue → List (ℕ × Value) = λ (a : AtomValue). served l.update (places_of l.around.places.now) l.owner.facts.enabled a in
    decisions_of l.out.items ++ flat_map f (filter (λ a. not (is_block a)) (map (λ a. atom_value a.now) (drop l.atom-index l.atom-items))) ≡ decisions_of l.fn.out.items ++ flat_map f (needs l.fn.class l.owner)
