use Rattle.std.proofs.Common.{◌≡◌, drop, map}
use Rattle.std.specs.List.{list_any}
use Rattle.choice_tree.specs.Views.{offer_of, universe_of}
use Rattle.dep_atom.specs.Values.{atom_value}
use Rattle.emerge_choose.specs.Wishes.{is_served, may_serve}
use Rattle.emerge_choose.proofs.serving.is_served.Given as goal

abbrev pub invariant-loop-offer : goal.invariant-loop-offer
invariant-loop-offer l = list_any (may_serve (atom_value l.atom)) (map offer_of (drop l.offer-index l.offer-items)) ≡ is_served (universe_of l.universe) (atom_value l.atom)
