use Rattle.std.proofs.Common.{◌≡◌, drop, map, not}
use Rattle.std.specs.List.{find}
use Rattle.choice_tree.specs.Views.{universe_of}
use Rattle.dep_atom.specs.Values.{atom_value}
use Rattle.emerge_choose.specs.Wishes.{first_unserved, is_served}
use Rattle.emerge_choose.proofs.serving.first_unserved.Given as goal

abbrev pub invariant-loop-atom : goal.invariant-loop-atom
invariant-loop-atom l = find (λ a. not (is_served (universe_of l.universe) a)) (map atom_value (drop l.atom-index l.atom-items)) ≡ first_unserved (universe_of l.universe)
