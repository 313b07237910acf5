use Rattle.std.proofs.Common.{◌≡◌, drop, map}
use Rattle.std.specs.List.{list_any}
use Rattle.choice_tree.specs.Views.{offer_of, universe_of}
use Rattle.dep_atom.specs.Values.{atom_value}
use Rattle.choice_ends.specs.Ends.{is_offered, may_serve}
use Rattle.choice_ends.proofs.needs.some_serves.Given as goal

abbrev pub invariant-loop-offer : goal.invariant-loop-offer
invariant-loop-offer l =
    list_any (may_serve (atom_value l.atom) l.asker) (map offer_of (drop l.offer-index l.offer-items))
    ≡ is_offered (universe_of l.universe) l.asker (atom_value l.atom)
