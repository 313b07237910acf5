use Rattle.std.proofs.Common.{◌≡◌, None, drop}
use Rattle.std.specs.Option.{option_map}
use Rattle.dep_atom.specs.Values.{atom_value}
use Rattle.choice_tree.specs.Seen.{places_of}
use Rattle.merge_edges.specs.Found.{best_among}
use Rattle.merge_edges.specs.Views.{stander_of}
use Rattle.merge_edges.proofs.stander.best_among.Given as goal

abbrev pub invariant-loop-line : goal.invariant-loop-line
invariant-loop-line l = best_among (places_of l.places) (atom_value l.atom) l.asker (option_map stander_of l.best) (drop l.line-index l.lines) ≡ best_among (places_of l.places) (atom_value l.atom) l.asker None l.lines
